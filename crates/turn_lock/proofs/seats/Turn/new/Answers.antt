use Rattle.std.proofs.Common.{rules, ap, [], ◌∷◌, ◌≡◌, ◌<◌, ◌^◌, sym, subst}
use Rattle.std.specs.Prelude.{Some}
use Rattle.atomic_table.specs.Table.{opening}
use Rattle.turn_lock.specs.Views.{opening_view}
use Rattle.turn_lock.specs.Rules.{Kept}
use Rattle.turn_lock.proofs.SeatLists.{fresh_at, fresh_idle, fresh_empty, fresh_numbers}
use Rattle.turn_lock.proofs.Seating.{opens}
use Rattle.turn_lock.proofs.seats.Turn.new.Goals as goal

pub new-requires : goal.new-requires
new-requires g c =
    let from = g.V.Listed.origin c.of.result.value in
    let items : c.push.new.self.items ≡ Some c.args.value ∷ [] = search rules in
    let few : c.from.result < 2 ^ 32 = search rules in
    let same : c.of.result.value ≡ c.args.value = search rules in
    subst (λ slots. Kept g.V.Listed.list g.V.Listed.owner g.V.Listed.origin c.from.result from (opening (0 ∷ 0 ∷ []) slots (opening_view c.from.result from))) (sym items)
    (opens g.V.Listed.list g.V.Listed.owner g.V.Listed.origin c.from.result from c.args.value c.requires.empty (ap g.V.Listed.origin (sym same)) few)

pub returns-clause-idle : goal.returns-clause-idle
returns-clause-idle g c = fresh_at _ _ _ c.in_ok-dealt.ensures.fresh _ (fresh_idle _ _)

pub returns-clause-numbers : goal.returns-clause-numbers
returns-clause-numbers g c = fresh_numbers _ _ _ c.in_ok-dealt.ensures.fresh

pub returns-clause-fresh : goal.returns-clause-fresh
returns-clause-fresh g c = fresh_at _ _ _ c.in_ok-dealt.ensures.fresh _ (fresh_empty _ _)
