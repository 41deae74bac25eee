-- The order of runs with locks: MPI 3.1, sections 11.5.3 and 11.7.
use Rattle.std.specs.Prelude.{◌≡◌, true, false, [], ◌∷◌}
use Rattle.rma_types.specs.declared.calls.Lock.{Lock}
use Rattle.rma_types.specs.declared.calls.Lock.TheVariants.{Exclusive, Shared}
use Rattle.rma_types.specs.declared.dtypes.Dtype.TheVariants.{Int32}
use Rattle.rma_types.specs.declared.findings.Model.TheVariants.{Unified}
use Rattle.rma_types.specs.declared.findings.Rule.TheVariants.{S1, S2, S3}
use Rattle.rma_types.specs.declared.scripts.Script.{Script}
use Rattle.order_rules.specs.Findings.{findings}
use Rattle.run_examples.specs.Locks.{puts_in_a_lock, flush_between_puts, put_then_get, get_then_put, two_sums}
use Rattle.run_examples.specs.Locks.{sum_and_max}
use Rattle.run_examples.specs.Locks.{two_datatypes, sum_and_read, load_without_sync, load_after_sync}
use Rattle.run_examples.specs.Locks.{store_beside_a_put}
use Rattle.run_examples.specs.Scripts.{allocate, lock, pair, plain_run, put, script, unlock}
use Rattle.order_examples.specs.Judged.{Finds, IsDoneAt, IsVisibleAt, item, order_of}

-- ---- in one lock

abbrev pub FindsTwoPuts : Type 0
FindsTwoPuts = Finds puts_in_a_lock (plain_run puts_in_a_lock) (pair S2 0 3 0 5 ∷ [])

abbrev pub FindsNoneAfterAFlush : Type 0
FindsNoneAfterAFlush = Finds flush_between_puts (plain_run flush_between_puts) []

abbrev pub FindsTheGetOfAPut : Type 0
FindsTheGetOfAPut = Finds put_then_get (plain_run put_then_get) (pair S2 0 3 0 6 ∷ [])

abbrev pub FindsNoneAfterTheGet : Type 0
FindsNoneAfterTheGet = Finds get_then_put (plain_run get_then_put) []

-- ---- accumulates under shared locks

abbrev pub FindsNoneOfSums : Type 0
FindsNoneOfSums = Finds two_sums (plain_run two_sums) []

abbrev pub FindsOtherOperations : Type 0
FindsOtherOperations = Finds sum_and_max (plain_run sum_and_max) (pair S2 0 3 1 3 ∷ [])

abbrev pub FindsOtherDatatypes : Type 0
FindsOtherDatatypes = Finds two_datatypes (plain_run two_datatypes) (pair S2 0 3 1 3 ∷ [])

abbrev pub FindsNoneOfAReadBesideASum : Type 0
FindsNoneOfAReadBesideASum = Finds sum_and_read (plain_run sum_and_read) []

-- ---- loads and stores

abbrev pub FindsTheLoad : Type 0
FindsTheLoad = Finds load_without_sync (plain_run load_without_sync) (pair S1 0 3 1 5 ∷ [])

abbrev pub FindsNoneAfterASync : Type 0
FindsNoneAfterASync = Finds load_after_sync (plain_run load_after_sync) []

abbrev pub FindsTheStore : Type 0
FindsTheStore = Finds store_beside_a_put (plain_run store_beside_a_put) (pair S3 0 3 1 2 ∷ [])

abbrev pub FindsNoStoreWhereUnified : Type 0
FindsNoStoreWhereUnified =
    let run = plain_run store_beside_a_put in
    findings store_beside_a_put run Unified (order_of store_beside_a_put run) ≡ []

-- ---- two locks

-- Rank 1 has the first turn after the allocate, and takes the shared lock. The lock of rank 0 has a later place.
abbrev pub put_after_a_shared_lock : Lock → Script
put_after_a_shared_lock kind = script
    ((allocate 0 4 4
    ∷ lock 0 kind 0
    ∷ put 0 0 0 Int32 (1 ∷ [])
    ∷ unlock 0 0
    ∷ [])
    ∷ (allocate 0 4 4
    ∷ lock 0 Shared 0
    ∷ put 0 0 0 Int32 (2 ∷ [])
    ∷ unlock 0 0
    ∷ [])
    ∷ [])

abbrev pub FindsNoneAfterASharedUnlock : Type 0
FindsNoneAfterASharedUnlock =
    Finds (put_after_a_shared_lock Exclusive) (plain_run (put_after_a_shared_lock Exclusive)) []

abbrev pub FindsPutsUnderSharedLocks : Type 0
FindsPutsUnderSharedLocks =
    Finds (put_after_a_shared_lock Shared) (plain_run (put_after_a_shared_lock Shared)) (pair S2 0 3 1 3 ∷ [])

-- ---- points

-- the flush, and the unlock_all
abbrev pub IsDoneByFlushAndUnlock : Type 0
IsDoneByFlushAndUnlock = IsDoneAt load_after_sync (plain_run load_after_sync) (item 0 3) (item 0 5 ∷ item 0 8 ∷ [])

abbrev pub IsVisibleAtTheSync : Type 0
IsVisibleAtTheSync = IsVisibleAt load_after_sync (plain_run load_after_sync) (item 0 3) (item 1 5 ∷ [])

-- the flush is before what the other rank does after the barrier, and the barrier of the other rank is before no flush
abbrev pub ReachesTheLeaveOfABarrier : Type 0
ReachesTheLeaveOfABarrier =
    (order_of load_after_sync (plain_run load_after_sync) (item 0 5) (item 1 5) ≡ true)
    × (order_of load_after_sync (plain_run load_after_sync) (item 1 5) (item 0 5) ≡ false)
