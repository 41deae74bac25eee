use Rattle.std.proofs.Common.{rules, ◌≡◌, ◌+◌, ◌-◌, ◌<◌, [], length, ap, ◌∙◌, subst, sym, arith}
use Rattle.turn_lock.specs.Seats.{AreFresh}
use Rattle.turn_lock.specs.Views.{first_alone, dealing, numbers_from}
use Rattle.turn_lock.proofs.SeatLists.{dealt_at, dealt_left, fresh_more}
use Rattle.turn_lock.proofs.Seating.{deals_at}
use Rattle.turn_lock.proofs.dealing.deal_seats.Goals as goal

pub split_seat-place-requires : goal.split_seat-place-requires
split_seat-place-requires g c =
    let inv = c.loop.invariant in
    let left : 0 < c.args.count - length c.loop.seats.items = search rules in
    (search rules, search rules, deals_at g.V.Listed.list g.V.Listed.owner g.V.Listed.origin _ _ _ _ _ _ _ (dealt_at _ _ _ _ (ap (λ m. m.0) inv.4) left))

pub loop-preserved : goal.loop-preserved
loop-preserved g c =
    let inv = c.loop.invariant in
    let name = c.args.shared.now.table_id in
    let o = g.V.Listed.origin c.args.shared.now.key.value.value in
    let left : 0 < c.args.count - length c.loop.seats.items = search rules in
    let items = c.push_reserved.ensures.items in
    let view = ap (λ m. m.0) inv.4 in
    let split = c.split_seat-place.ensures in
    let long : length c.push_reserved.new.self.items ≡ length c.loop.seats.items + 1 = search rules in
    let less : c.args.count - length c.push_reserved.new.self.items ≡ c.args.count - length c.loop.seats.items - 1 = omega (arith, long) in (
      search rules,
      search rules,
      search rules,
      search rules,
      split.2 ∙ (λ i. (dealt_left _ _ _ _ _ o view left long less i, ap (λ m. m.1) inv.4 i)),
      subst (λ l. AreFresh name o l) (sym items) (fresh_more name o _ _ inv.5 (search rules) (split.4 ∙ ap (λ v. (first_alone v, [])) (dealt_at _ _ _ o view left))),
    )

pub returns-clause-fresh : goal.returns-clause-fresh
returns-clause-fresh g c =
    let inv = c.loop.invariant in
    let name = c.args.shared.now.table_id in
    let o = g.V.Listed.origin c.args.shared.now.key.value.value in
    let left : 0 < c.args.count - length c.loop.seats.items = search rules in
    let one : c.args.count - length c.loop.seats.items ≡ 1 = search rules in
    subst (λ l. AreFresh name o l) (sym c.push_reserved-2.ensures.items) (fresh_more name o _ _ inv.5 inv.3 (inv.4 ∙ ap (λ n. (dealing (numbers_from (length c.loop.seats.items) n) o, [])) one))
