use Rattle.std.proofs.Common.{◌<◌, ◌%◌, ◌∙◌, sym, ap, length, arith}
use Rattle.std.specs.List.{filter}
use Rattle.call_rules.specs.Pieces.{numbers_from}
use Rattle.rank_runners.specs.RankSets.{has}
use Rattle.rank_runners.proofs.Picks.{drawn_some, drawn_no_rank, drawn_within}
use Rattle.rank_runners.proofs.schedules.Turns.draw.Goals as goal
use Rattle.step_runs.specs.Generator.{drawn_from}

pub returns-then-count-eq0 : goal.returns-then-count-eq0
returns-then-count-eq0 c =
    drawn_no_rank c.args.self.now c.args.ready c.args.ranks (sym c.count_ready-count.ensures ∙ c.if-count-eq0.true)

pub returns-in-Some : goal.returns-in-Some
returns-in-Some c =
    let some : 0 < length (filter (has c.args.ready) (numbers_from 0 c.args.ranks)) = omega
    (arith, c.count_ready-count.ensures) in
    drawn_some c.args.self.now c.args.ready c.args.ranks c.in-Some.rank c.stirred-self.result _ some
    c.stirred-self.ensures
    (ap (λ n. n % c.count_ready-count.result) c.drawn_from.ensures
    ∙ ap (λ n. drawn_from c.stirred-self.result % n) c.count_ready-count.ensures)
    c.in-Some.ensures

pub returns-in-None : goal.returns-in-None
returns-in-None c =
    let all = filter (has c.args.ready) (numbers_from 0 c.args.ranks) in
    let some : 0 < length all = omega (arith, c.count_ready-count.ensures) in
    absurd (drawn_within all c.drawn_from.result _ some
    (ap (λ n. c.drawn_from.result % n) c.count_ready-count.ensures) c.in-None.ensures)
