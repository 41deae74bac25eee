-- The order of an exchange between neighbours on a ring of 4 ranks: MPI 3.1, sections 11.5.1 and 11.7.
use Rattle.std.specs.Prelude.{[], ◌∷◌}
use Rattle.rma_types.specs.declared.schedules.Delay.TheVariants.{End as EndDelay, Seeded as SeededDelay}
use Rattle.rma_types.specs.declared.schedules.Order.TheVariants.{Robin}
use Rattle.step_runs.specs.StepRun.{step_run}
use Rattle.run_examples.specs.Exchanges.{ring}
use Rattle.run_examples.specs.Scripts.{plain_run}
use Rattle.order_examples.specs.Judged.{Finds, IsDoneAt, ReadsOrdered, item}

-- each access is touched at once
abbrev pub FindsNoneAtOnce : Type 0
FindsNoneAtOnce = Finds ring (plain_run ring) []

-- each access is touched when a call must have it
abbrev pub FindsNoneAtTheFence : Type 0
FindsNoneAtTheFence = Finds ring (step_run ring Robin EndDelay 0) []

-- accesses are touched at drawn moments
abbrev pub FindsNoneAtDrawnMoments : Type 0
FindsNoneAtDrawnMoments = Finds ring (step_run ring Robin SeededDelay 7) []

-- the first put of rank 0, and each rank's leave of the second fence
abbrev pub IsDoneAtEachLeave : Type 0
IsDoneAtEachLeave = IsDoneAt ring (plain_run ring) (item 0 6) (item 0 11 ∷ item 1 11 ∷ item 2 11 ∷ item 3 11 ∷ [])

-- the load of rank 0: what its left neighbour put, what it stored, and what its right neighbour put
abbrev pub ReadsTheNeighbours : Type 0
ReadsTheNeighbours = ReadsOrdered ring (plain_run ring) (item 0 12) (13 ∷ 10 ∷ 11 ∷ [])
