use Rattle.std.proofs.Common.{◌≡◌, ◌-◌, ◌∙◌, sym, ap, arith}
use Rattle.std.specs.List.{fold}
use Rattle.call_rules.specs.Pieces.{numbers_from}
use Rattle.rank_runners.proofs.Drained.{drains_less, drains_over}
use Rattle.rank_runners.proofs.runners.Runner.drain.Goals as goal
use Rattle.step_runs.specs.StepRun.{drain_rank}

pub loop-rank-init : goal.loop-rank-init
loop-rank-init c = λ stage world w.
    let all : c.args.ranks - 0 ≡ c.args.ranks = omega arith in
    record { reached = world; in_world = w; same = ap (λ n. fold (drain_rank stage) world (numbers_from 0 n)) all }

pub drain_rank-requires-clause-world : goal.drain_rank-requires-clause-world
drain_rank-requires-clause-world c =
    let d = c.loop-rank.invariant c.requires.world.0 c.requires.world.1 c.requires.world.2 in
    (c.requires.world.0, d.reached, d.in_world)

pub drain_rank-requires-clause-rank : goal.drain_rank-requires-clause-rank
drain_rank-requires-clause-rank c =
    let d = c.loop-rank.invariant c.requires.world.0 c.requires.world.1 c.requires.world.2 in
    let a = d.in_world.count in let b = c.requires.world.2.count in omega arith

pub loop-rank-preserved : goal.loop-rank-preserved
loop-rank-preserved c = λ stage world w.
    drains_less stage world c.loop-rank.rank c.args.ranks c.loop-rank.self c.drain_rank.new.self
    c.loop-rank-test.true c.in_ok-drain_rank.ensures
    (c.loop-rank.invariant stage world w)

pub returns : goal.returns
returns c = λ stage world w.
    drains_over stage world c.loop-rank.rank c.args.ranks c.loop-rank.self (sym c.requires.ranks
    ∙ w.count) c.loop-rank-test.false (c.loop-rank.invariant stage world w)
