-- That the run on one thread is put together from histories, and so lawful: this project's profile of MPI 3.1,
-- sections 11.5 and 11.7.
use Rattle.std.specs.Prelude.{ℕ}
use Rattle.rma_types.specs.declared.schedules.Delay.{Delay}
use Rattle.rma_types.specs.declared.schedules.Order.{Order}
use Rattle.rma_types.specs.declared.scripts.Script.{Script}
use Rattle.call_rules.specs.WellFormed.{IsWellFormed}
use Rattle.lawful_runs.specs.LawfulRun.{IsLawful}
use Rattle.rank_laws.specs.Assembled.{IsAssembled}
use Rattle.step_runs.specs.StepRun.{step_run}

-- the run on one thread is assembled, whatever the order of the ranks, the delay and the seed
abbrev pub StepRunIsAssembled : Type 0
StepRunIsAssembled = (script : Script) (order : Order) (delay : Delay) (seed : ℕ) → IsWellFormed script →
    IsAssembled script delay seed (step_run script order delay seed)

-- the run on one thread is lawful for its delay
abbrev pub StepRunIsLawful : Type 0
StepRunIsLawful = (script : Script) (order : Order) (delay : Delay) (seed : ℕ) → IsWellFormed script →
    IsLawful script delay (step_run script order delay seed)
