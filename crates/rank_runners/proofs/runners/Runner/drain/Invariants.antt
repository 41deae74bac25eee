use Rattle.lawful_runs.specs.Stages.{Stage}
use Rattle.rank_runners.specs.Runs.{IsWorld}
use Rattle.rank_runners.proofs.Drained.{Drains}
use Rattle.rank_runners.proofs.runners.Runner.drain.Given as goal
use Rattle.step_runs.specs.StepRun.{World}

-- the ranks that are left lead where all of them do
abbrev pub invariant-loop-rank : goal.invariant-loop-rank
invariant-loop-rank l = (stage : Stage) (world : World)
    → IsWorld stage l.initial.self.agents.items l.initial.self.board l.initial.self.memory world
    → Drains stage world l.rank l.ranks l.self
