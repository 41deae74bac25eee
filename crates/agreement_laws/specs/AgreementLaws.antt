-- That the touches of assembled runs keep the order of the run: MPI 3.1, section 11.7, in this project's profile.
use Rattle.std.specs.Prelude.{ℕ}
use Rattle.rma_types.specs.declared.schedules.Delay.{Delay}
use Rattle.rma_types.specs.declared.scripts.Script.{Script}
use Rattle.rma_record.specs.declared.runs.Run.{Run}
use Rattle.order_rules.specs.OrderedReads.{TouchesAgree}
use Rattle.rank_laws.specs.Assembled.{IsAssembled}

-- the touches of an assembled run keep its order
abbrev pub AssembledRunsAgree : Type 0
AssembledRunsAgree =
    (script : Script) (delay : Delay) (seed : ℕ) (run : Run) → IsAssembled script delay seed run →
    TouchesAgree script run
