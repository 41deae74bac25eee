-- That nothing is pending at the end of a run.
use Rattle.std.specs.Prelude.{ℕ, ◌≡◌, ◌<◌, []}
use Rattle.rma_types.specs.declared.schedules.Delay.{Delay}
use Rattle.rma_types.specs.declared.schedules.Order.{Order}
use Rattle.rma_types.specs.declared.scripts.Script.{Script}
use Rattle.call_rules.specs.WellFormed.{IsWellFormed}
use Rattle.lawful_runs.specs.Stages.{Stage, stage_of}
use Rattle.step_laws.specs.Ends.{last_world}
use Rattle.step_runs.specs.StepRun.{World, agent_at, drain}

-- no access of a rank is pending
abbrev pub NothingIsPending : Stage → World → Type 0
NothingIsPending stage world = (rank : ℕ) → rank < stage.script.ranks → (agent_at stage world rank).pending ≡ []

-- after the last turn all accesses that are pending are delivered
abbrev pub RunIsDrained : Type 0
RunIsDrained = (script : Script) (order : Order) (delay : Delay) (seed : ℕ) → IsWellFormed script →
    let stage = stage_of script delay in NothingIsPending stage (drain stage (last_world script order delay seed))
