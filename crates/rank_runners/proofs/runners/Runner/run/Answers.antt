use Rattle.std.proofs.Common.{◌≡◌, ◌-◌, ◌+◌, ◌<◌, arith, subst, refl}
use Rattle.lawful_runs.specs.Stages.{Stage}
use Rattle.rank_runners.specs.Runs.{IsRun}
use Rattle.rank_runners.proofs.NextRanks.{Remains, run_over, run_less, run_done, ready_next, some_still, count_still}
use Rattle.rank_runners.proofs.runners.Runner.run.Goals as goal
use Rattle.step_runs.specs.StepRun.{World, run_from}

pub loop-turn-init : goal.loop-turn-init
loop-turn-init c = λ stage world run.
    let all : c.args.turns ≡ c.args.turns - 0 = omega arith in
    record {
      reached = world;
      run = run;
      same = subst (λ n. run_from stage c.args.order n world ≡ run_from stage c.args.order c.args.turns world) all refl;
    }

pub next_rank-requires-clause-some : goal.next_rank-requires-clause-some
next_rank-requires-clause-some c = some_still c.args.order c.args.turns _ c.args.self.now c.loop-turn.self
    c.requires.some c.loop-turn.invariant

pub next_rank-requires-clause-ranks : goal.next_rank-requires-clause-ranks
next_rank-requires-clause-ranks c =
    count_still c.args.order c.args.turns _ c.args.ranks c.args.self.now c.loop-turn.self c.requires.some
    c.requires.ranks c.loop-turn.invariant

pub take_turn-requires : goal.take_turn-requires
take_turn-requires c =
    ready_next c.args.order c.args.turns _ c.args.self.now c.loop-turn.self c.next_rank.new.self c.in-Some.rank
    c.requires.some
    c.in-Some.ensures c.loop-turn.invariant

pub returns-in-None : goal.returns-in-None
returns-in-None c =
    let some : 0 < c.args.turns - c.loop-turn._turn = omega arith in
    run_over c.args.order c.args.turns
    (c.args.turns - c.loop-turn._turn) c.args.self.now c.loop-turn.self c.next_rank.new.self _ some refl
    c.in-None.ensures c.loop-turn.invariant

pub loop-turn-preserved : goal.loop-turn-preserved
loop-turn-preserved c =
    let some : 0 < c.args.turns - c.loop-turn._turn = omega arith in
    let less : c.args.turns - c.loop-turn._turn - 1 ≡ c.args.turns - (c.loop-turn._turn + 1) = omega arith in
    subst (λ n. (stage : Stage) (world : World) → IsRun stage c.args.self.now world
    → Remains c.args.order c.args.turns n c.args.self.now c.take_turn.new.self stage world) less
    (run_less c.args.order c.args.turns
    (c.args.turns - c.loop-turn._turn) c.args.self.now c.loop-turn.self c.next_rank.new.self c.take_turn.new.self
    c.in-Some.rank some c.in-Some.ensures c.in_ok-take_turn-in-Some.ensures c.loop-turn.invariant)

pub returns : goal.returns
returns c =
    run_done c.args.order c.args.turns (c.args.turns - c.loop-turn._turn) c.args.self.now c.loop-turn.self
    (omega arith) c.loop-turn.invariant
