use Rattle.std.proofs.Common.{◌-◌}
use Rattle.lawful_runs.specs.Stages.{Stage}
use Rattle.rank_runners.specs.Runs.{IsRun}
use Rattle.rank_runners.proofs.NextRanks.{Remains}
use Rattle.rank_runners.proofs.runners.Runner.run.Given as goal
use Rattle.step_runs.specs.StepRun.{World}

-- what is left of the turns leads where all of them do
abbrev pub invariant-loop-turn : goal.invariant-loop-turn
invariant-loop-turn l =
    (stage : Stage) (world : World) → IsRun stage l.initial.self world
    → Remains l.order l.turns (l.turns - l._turn) l.initial.self l.self stage world
