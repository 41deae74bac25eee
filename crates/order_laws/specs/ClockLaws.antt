-- Laws of the vector clocks of a run: MPI 3.1, section 11.7, in this project's profile of order.
use Rattle.std.specs.Prelude.{List}
use Rattle.rma_types.specs.declared.schedules.Delay.{Delay}
use Rattle.rma_types.specs.declared.scripts.Script.{Script}
use Rattle.rma_record.specs.declared.runs.Run.{Run}
use Rattle.lawful_runs.specs.LawfulRun.{IsLawful}
use Rattle.order_rules.specs.Before.{IsOrder}
use Rattle.clock_rules.specs.Clocks.{Stamp, KeepClockLaws, stamps_in, is_counted}

-- clocks that keep their laws decide the order of a lawful run
abbrev pub ClocksDecide : Type 0
ClocksDecide = (script : Script) (delay : Delay) (run : Run) → IsLawful script delay run →
    (stamps : List Stamp) → KeepClockLaws script run stamps → IsOrder script run (is_counted stamps)

-- the clocks that are computed keep them
abbrev pub StampsKeepLaws : Type 0
StampsKeepLaws = (script : Script) (delay : Delay) (run : Run) → IsLawful script delay run →
    KeepClockLaws script run (stamps_in script run)
