-- Runs in which a rank waits for ever, and ranks that disagree: MPI 3.1, sections 11.2 and 11.5.
use Rattle.std.specs.Prelude.{[], ◌∷◌, codes}
use Rattle.rma_types.specs.declared.calls.Call.TheVariants.{Barrier, Dynamic}
use Rattle.rma_types.specs.declared.calls.Lock.TheVariants.{Exclusive, Shared}
use Rattle.rma_types.specs.declared.dtypes.Dtype.TheVariants.{Int32}
use Rattle.rma_types.specs.declared.schedules.Delay.TheVariants.{None as NoDelay}
use Rattle.rma_types.specs.declared.schedules.Order.TheVariants.{Reverse, Seeded as SeededOrder}
use Rattle.rma_types.specs.declared.scripts.Script.{Script}
use Rattle.step_runs.specs.StepRun.{step_run}
use Rattle.run_examples.specs.Scripts.{Gives, allocate, fence, lock, plain_run, put, script}

abbrev pub barrier_and_fence : Script
barrier_and_fence = script
    ((allocate 0 0 1
    ∷ Barrier
    ∷ [])
    ∷ (allocate 0 0 1
    ∷ fence 0
    ∷ [])
    ∷ [])

-- rank 0 in a barrier, and rank 1 in a fence
abbrev pub WaitInTwoCollectives : Type 0
WaitInTwoCollectives = Gives barrier_and_fence (plain_run barrier_and_fence) []
    (codes "stuck"
    ∷ codes "0:1 waits barrier"
    ∷ codes "1:1 waits fence"
    ∷ codes "summary accesses 0 touches 0 entries 6 refused 0 findings 0"
    ∷ [])
    7

abbrev pub kept_lock : Script
kept_lock = script
    ((allocate 0 4 4
    ∷ lock 0 Exclusive 0
    ∷ Barrier
    ∷ [])
    ∷ (allocate 0 4 4
    ∷ Barrier
    ∷ lock 0 Shared 0
    ∷ [])
    ∷ [])

-- rank 0 ends with an exclusive lock
abbrev pub WaitsForTheKeptLock : Type 0
WaitsForTheKeptLock = Gives kept_lock (plain_run kept_lock) []
    (codes "stuck"
    ∷ codes "1:2 waits lock"
    ∷ codes "summary accesses 0 touches 0 entries 9 refused 0 findings 0"
    ∷ [])
    7

abbrev pub open_lock : Script
open_lock = script
    ((allocate 0 4 4
    ∷ lock 0 Shared 0
    ∷ put 0 0 0 Int32 (5 ∷ [])
    ∷ [])
    ∷ [])

-- what was put is there
abbrev pub EndsWithAnOpenLock : Type 0
EndsWithAnOpenLock = Gives open_lock (plain_run open_lock) []
    (codes "ended"
    ∷ codes "memory 0 0 0500000000000000"
    ∷ codes "summary accesses 1 touches 1 entries 3 refused 0 findings 0"
    ∷ [])
    0

abbrev pub two_flavors : Script
two_flavors = script
    ((allocate 0 4 4
    ∷ [])
    ∷ (Dynamic 0
    ∷ allocate 0 4 4
    ∷ [])
    ∷ [])

-- rank 0 has the first turn
abbrev pub RefusesTheSecondFlavor : Type 0
RefusesTheSecondFlavor = Gives two_flavors (plain_run two_flavors) []
    (codes "ended"
    ∷ codes "1:0 refused MPI_ERR_RMA_FLAVOR"
    ∷ codes "summary accesses 0 touches 0 entries 4 refused 1 findings 0"
    ∷ [])
    1

-- rank 1 has the first turn
abbrev pub WaitsForTheFlavor : Type 0
WaitsForTheFlavor = Gives two_flavors (step_run two_flavors Reverse NoDelay 0) []
    (codes "stuck"
    ∷ codes "0:0 refused MPI_ERR_RMA_FLAVOR"
    ∷ codes "1:0 waits dynamic"
    ∷ codes "summary accesses 0 touches 0 entries 1 refused 1 findings 0"
    ∷ [])
    7

-- the first draw is even, and gives rank 0 the first turn
abbrev pub RefusesTheRankDrawnSecond : Type 0
RefusesTheRankDrawnSecond = Gives two_flavors (step_run two_flavors SeededOrder NoDelay 3) []
    (codes "ended"
    ∷ codes "1:0 refused MPI_ERR_RMA_FLAVOR"
    ∷ codes "summary accesses 0 touches 0 entries 4 refused 1 findings 0"
    ∷ [])
    1

-- the first draw is odd, and gives rank 1 the first turn
abbrev pub WaitsAsTheRankDrawnFirst : Type 0
WaitsAsTheRankDrawnFirst = Gives two_flavors (step_run two_flavors SeededOrder NoDelay 0) []
    (codes "stuck"
    ∷ codes "0:0 refused MPI_ERR_RMA_FLAVOR"
    ∷ codes "1:0 waits dynamic"
    ∷ codes "summary accesses 0 touches 0 entries 1 refused 1 findings 0"
    ∷ [])
    7
