-- What gets and loads read in assembled runs, and in the run on one thread: MPI 3.1, section 11.7, in this project's
-- profile.
use Rattle.std.specs.Prelude.{ℕ, ◌≡◌, Bool, []}
use Rattle.rma_types.specs.declared.accesses.Id.{Id}
use Rattle.rma_types.specs.declared.findings.Model.{Model}
use Rattle.rma_types.specs.declared.schedules.Delay.{Delay}
use Rattle.rma_types.specs.declared.schedules.Order.{Order}
use Rattle.rma_types.specs.declared.scripts.Script.{Script}
use Rattle.rma_record.specs.declared.runs.Run.{Run}
use Rattle.call_rules.specs.WellFormed.{IsWellFormed}
use Rattle.order_rules.specs.Before.{IsOrder}
use Rattle.order_rules.specs.Findings.{findings}
use Rattle.order_rules.specs.OrderedReads.{TouchesAgree, ReadsInOrder}
use Rattle.rank_laws.specs.Assembled.{IsAssembled}
use Rattle.step_runs.specs.StepRun.{step_run}

-- where the run has no findings in some model, each get and each load reads what the updates before its Issue leave
abbrev pub ReadsWithoutFindings : Script → Run → Type 0
ReadsWithoutFindings script run = (model : Model) (before : Id → Id → Bool) → IsOrder script run before →
    findings script run model before ≡ [] → ReadsInOrder script run before

-- so it is in an assembled run
abbrev pub AssembledReadsAreOrdered : Type 0
AssembledReadsAreOrdered = (script : Script) (delay : Delay) (seed : ℕ) (run : Run) → IsWellFormed script →
    IsAssembled script delay seed run → ReadsWithoutFindings script run

-- the touches of the run on one thread keep its order
abbrev pub StepRunAgrees : Type 0
StepRunAgrees = (script : Script) (order : Order) (delay : Delay) (seed : ℕ) → IsWellFormed script →
    TouchesAgree script (step_run script order delay seed)

-- and its reads are in order
abbrev pub StepReadsAreOrdered : Type 0
StepReadsAreOrdered = (script : Script) (order : Order) (delay : Delay) (seed : ℕ) → IsWellFormed script →
    ReadsWithoutFindings script (step_run script order delay seed)
