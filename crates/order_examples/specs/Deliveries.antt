-- The order of runs whose accesses are touched after their calls: MPI 3.1, section 11.7.
use Rattle.std.specs.Prelude.{[], ◌∷◌}
use Rattle.rma_types.specs.declared.findings.Rule.TheVariants.{S1}
use Rattle.rma_types.specs.declared.schedules.Delay.TheVariants.{End as EndDelay}
use Rattle.rma_types.specs.declared.schedules.Order.TheVariants.{Robin}
use Rattle.step_runs.specs.StepRun.{step_run}
use Rattle.run_examples.specs.Deliveries.{put_and_load, put_and_wait}
use Rattle.run_examples.specs.Scripts.{pair, plain_run}
use Rattle.order_examples.specs.Judged.{Finds}

abbrev pub FindsTheLoadBeforeTheTouch : Type 0
FindsTheLoadBeforeTheTouch = Finds put_and_load (step_run put_and_load Robin EndDelay 0) (pair S1 0 3 0 4 ∷ [])

abbrev pub FindsTheLoadAfterTheTouch : Type 0
FindsTheLoadAfterTheTouch = Finds put_and_load (plain_run put_and_load) (pair S1 0 3 0 5 ∷ [])

abbrev pub FindsNoneWhereRanksWait : Type 0
FindsNoneWhereRanksWait = Finds put_and_wait (step_run put_and_wait Robin EndDelay 0) []
