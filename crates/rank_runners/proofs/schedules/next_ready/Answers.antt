use Rattle.std.proofs.Common.{◌≡◌, ◌∙◌, ◌+◌, ◌-◌, ℕ, sym, ap, arith}
use Rattle.std.specs.Prelude.{Option, reverse}
use Rattle.std.specs.List.{find}
use Rattle.std.specs.Option.{option_or}
use Rattle.rma_types.specs.declared.schedules.Order.{Order}
use Rattle.call_rules.specs.Pieces.{numbers_from}
use Rattle.rank_runners.specs.RankSets.{has}
use Rattle.rank_runners.proofs.Picks.{robin_order, reverse_order}
use Rattle.rank_runners.proofs.schedules.next_ready.Goals as goal
use Rattle.step_runs.specs.Schedules.{in_order}

pub returns-in-Some : goal.returns-in-Some
returns-in-Some c =
    let up = find (has c.args.ready) (numbers_from 0 (c.args.last + 1)) in
    ap (λ (o : Option ℕ). option_or o up) c.in-Some.ensures
    ∙ sym (robin_order (has c.args.ready) c.args.last c.args.ranks c.requires.last)
    ∙ ap (λ (order : Order). find (has c.args.ready) (in_order order c.args.last c.args.ranks)) (sym c.in-Robin.is)

pub returns-in-None : goal.returns-in-None
returns-in-None c =
    let up = find (has c.args.ready) (numbers_from 0 (c.args.last + 1)) in
    let all : c.args.last + 1 - 0 ≡ c.args.last + 1 = omega arith in
    c.first_ready-in-None.ensures ∙ ap (λ n. find (has c.args.ready) (numbers_from 0 n)) all
    ∙ ap (λ (o : Option ℕ). option_or o up) c.in-None.ensures
    ∙ sym (robin_order (has c.args.ready) c.args.last c.args.ranks c.requires.last)
    ∙ ap (λ (order : Order). find (has c.args.ready) (in_order order c.args.last c.args.ranks)) (sym c.in-Robin.is)

pub returns-in-Some-last_ready : goal.returns-in-Some-last_ready
returns-in-Some-last_ready c =
    let down = find (has c.args.ready) (reverse (numbers_from c.args.last (c.args.ranks - c.args.last))) in
    ap (λ (o : Option ℕ). option_or o down) c.in-Some-last_ready.ensures
    ∙ sym (reverse_order (has c.args.ready) c.args.last c.args.ranks c.requires.last)
    ∙ ap (λ (order : Order). find (has c.args.ready) (in_order order c.args.last c.args.ranks)) (sym c.in-Reverse.is)

pub returns-in-None-last_ready : goal.returns-in-None-last_ready
returns-in-None-last_ready c =
    let down = find (has c.args.ready) (reverse (numbers_from c.args.last (c.args.ranks - c.args.last))) in
    c.last_ready-in-None-last_ready.ensures
    ∙ ap (λ (o : Option ℕ). option_or o down) c.in-None-last_ready.ensures
    ∙ sym (reverse_order (has c.args.ready) c.args.last c.args.ranks c.requires.last)
    ∙ ap (λ (order : Order). find (has c.args.ready) (in_order order c.args.last c.args.ranks)) (sym c.in-Reverse.is)
