-- Runs with locks: MPI 3.1, sections 11.5.3 and 11.7.
use Rattle.std.specs.Prelude.{[], ◌∷◌, codes}
use Rattle.rma_types.specs.declared.calls.Call.TheVariants.{Barrier, Sync, UnlockAll}
use Rattle.rma_types.specs.declared.calls.Lock.TheVariants.{Exclusive, Shared}
use Rattle.rma_types.specs.declared.dtypes.Dtype.TheVariants.{Byte, Int32, Uint32}
use Rattle.rma_types.specs.declared.findings.Rule.TheVariants.{S1, S2, S3}
use Rattle.rma_types.specs.declared.ops.Op.TheVariants.{Max, NoOp, Sum}
use Rattle.rma_types.specs.declared.scripts.Script.{Script}
use Rattle.run_examples.specs.Scripts.{Gives, acc, allocate, flush, flush_local, fop, get, load, lock, lock_all, pair}
use Rattle.run_examples.specs.Scripts.{plain_run, put, script, store, unlock}

abbrev pub puts_in_a_lock : Script
puts_in_a_lock = script
    ((allocate 0 4 4
    ∷ lock 0 Exclusive 1
    ∷ put 0 1 0 Int32 (1 ∷ [])
    ∷ put 0 1 0 Int32 (2 ∷ [])
    ∷ unlock 0 1
    ∷ [])
    ∷ (allocate 0 4 4
    ∷ [])
    ∷ [])

-- the second put stays, and the pair is of both
abbrev pub ReportsTwoPuts : Type 0
ReportsTwoPuts = Gives puts_in_a_lock (plain_run puts_in_a_lock) (pair S2 0 3 0 5 ∷ [])
    (codes "ended"
    ∷ codes "memory 1 0 0200000000000000"
    ∷ codes "finding S2 0:2 0:3"
    ∷ codes "summary accesses 2 touches 2 entries 6 refused 0 findings 1"
    ∷ [])
    1

abbrev pub flush_between_puts : Script
flush_between_puts = script
    ((allocate 0 4 4
    ∷ lock 0 Exclusive 1
    ∷ put 0 1 0 Int32 (1 ∷ [])
    ∷ flush 0 1
    ∷ put 0 1 0 Int32 (2 ∷ [])
    ∷ unlock 0 1
    ∷ [])
    ∷ (allocate 0 4 4
    ∷ [])
    ∷ [])

-- with a flush between them, and no finding
abbrev pub PutsAfterAFlush : Type 0
PutsAfterAFlush = Gives flush_between_puts (plain_run flush_between_puts) []
    (codes "ended"
    ∷ codes "memory 1 0 0200000000000000"
    ∷ codes "summary accesses 2 touches 2 entries 6 refused 0 findings 0"
    ∷ [])
    0

abbrev pub put_then_get : Script
put_then_get = script
    ((allocate 0 4 4
    ∷ lock 0 Exclusive 1
    ∷ put 0 1 0 Int32 (1 ∷ [])
    ∷ flush_local 0 1
    ∷ get 0 1 0 Int32 1
    ∷ unlock 0 1
    ∷ [])
    ∷ (allocate 0 4 4
    ∷ [])
    ∷ [])

-- the get fetches what was put
abbrev pub ReportsTheGetOfAPut : Type 0
ReportsTheGetOfAPut = Gives put_then_get (plain_run put_then_get) (pair S2 0 3 0 6 ∷ [])
    (codes "ended"
    ∷ codes "0:4 value 1"
    ∷ codes "memory 1 0 0100000000000000"
    ∷ codes "finding S2 0:2 0:4"
    ∷ codes "summary accesses 2 touches 2 entries 6 refused 0 findings 1"
    ∷ [])
    1

abbrev pub get_then_put : Script
get_then_put = script
    ((allocate 0 4 4
    ∷ lock 0 Exclusive 1
    ∷ get 0 1 0 Int32 1
    ∷ flush_local 0 1
    ∷ put 0 1 0 Int32 (1 ∷ [])
    ∷ unlock 0 1
    ∷ [])
    ∷ (allocate 0 4 4
    ∷ [])
    ∷ [])

-- the get fetches what was there before the put
abbrev pub GetsBeforeThePut : Type 0
GetsBeforeThePut = Gives get_then_put (plain_run get_then_put) []
    (codes "ended"
    ∷ codes "0:2 value 0"
    ∷ codes "memory 1 0 0100000000000000"
    ∷ codes "summary accesses 2 touches 2 entries 6 refused 0 findings 0"
    ∷ [])
    0

abbrev pub two_sums : Script
two_sums = script
    ((allocate 0 4 4
    ∷ lock 0 Shared 0
    ∷ acc 0 0 0 Int32 Sum (3 ∷ [])
    ∷ unlock 0 0
    ∷ [])
    ∷ (allocate 0 4 4
    ∷ lock 0 Shared 0
    ∷ acc 0 0 0 Int32 Sum (4 ∷ [])
    ∷ unlock 0 0
    ∷ [])
    ∷ [])

-- 3 and 4
abbrev pub AddsBothSums : Type 0
AddsBothSums = Gives two_sums (plain_run two_sums) []
    (codes "ended"
    ∷ codes "memory 0 0 0700000000000000"
    ∷ codes "summary accesses 2 touches 2 entries 8 refused 0 findings 0"
    ∷ [])
    0

abbrev pub sum_and_max : Script
sum_and_max = script
    ((allocate 0 4 4
    ∷ lock 0 Shared 0
    ∷ acc 0 0 0 Int32 Sum (3 ∷ [])
    ∷ unlock 0 0
    ∷ [])
    ∷ (allocate 0 4 4
    ∷ lock 0 Shared 0
    ∷ acc 0 0 0 Int32 Max (4 ∷ [])
    ∷ unlock 0 0
    ∷ [])
    ∷ [])

-- a sum of 3 after the greater of 0 and 4
abbrev pub ReportsOtherOperations : Type 0
ReportsOtherOperations = Gives sum_and_max (plain_run sum_and_max) (pair S2 0 3 1 3 ∷ [])
    (codes "ended"
    ∷ codes "memory 0 0 0700000000000000"
    ∷ codes "finding S2 0:2 1:2"
    ∷ codes "summary accesses 2 touches 2 entries 8 refused 0 findings 1"
    ∷ [])
    1

abbrev pub two_datatypes : Script
two_datatypes = script
    ((allocate 0 4 4
    ∷ lock 0 Shared 0
    ∷ acc 0 0 0 Int32 Sum (3 ∷ [])
    ∷ unlock 0 0
    ∷ [])
    ∷ (allocate 0 4 4
    ∷ lock 0 Shared 0
    ∷ acc 0 0 0 Uint32 Sum (4 ∷ [])
    ∷ unlock 0 0
    ∷ [])
    ∷ [])

-- a signed and an unsigned sum
abbrev pub ReportsOtherDatatypes : Type 0
ReportsOtherDatatypes = Gives two_datatypes (plain_run two_datatypes) (pair S2 0 3 1 3 ∷ [])
    (codes "ended"
    ∷ codes "memory 0 0 0700000000000000"
    ∷ codes "finding S2 0:2 1:2"
    ∷ codes "summary accesses 2 touches 2 entries 8 refused 0 findings 1"
    ∷ [])
    1

abbrev pub sum_and_read : Script
sum_and_read = script
    ((allocate 0 4 4
    ∷ lock 0 Shared 0
    ∷ acc 0 0 0 Int32 Sum (3 ∷ [])
    ∷ unlock 0 0
    ∷ [])
    ∷ (allocate 0 4 4
    ∷ lock 0 Shared 0
    ∷ fop 0 0 0 Int32 NoOp 0
    ∷ unlock 0 0
    ∷ [])
    ∷ [])

-- rank 1 has the first turn after the allocate, and fetches 0 before the sum
abbrev pub ReadsBesideASum : Type 0
ReadsBesideASum = Gives sum_and_read (plain_run sum_and_read) []
    (codes "ended"
    ∷ codes "1:2 value 0"
    ∷ codes "memory 0 0 0300000000000000"
    ∷ codes "summary accesses 2 touches 2 entries 8 refused 0 findings 0"
    ∷ [])
    0

abbrev pub load_without_sync : Script
load_without_sync = script
    ((allocate 0 4 4
    ∷ lock_all 0
    ∷ put 0 1 0 Int32 (5 ∷ [])
    ∷ flush 0 1
    ∷ Barrier
    ∷ UnlockAll 0
    ∷ [])
    ∷ (allocate 0 4 4
    ∷ lock_all 0
    ∷ Barrier
    ∷ load 0 0 Int32 1
    ∷ UnlockAll 0
    ∷ [])
    ∷ [])

-- the pair is of the put and the load
abbrev pub ReportsTheLoad : Type 0
ReportsTheLoad = Gives load_without_sync (plain_run load_without_sync) (pair S1 0 3 1 5 ∷ [])
    (codes "ended"
    ∷ codes "1:3 value 5"
    ∷ codes "memory 1 0 0500000000000000"
    ∷ codes "finding S1 0:2 1:3"
    ∷ codes "summary accesses 2 touches 2 entries 12 refused 0 findings 1"
    ∷ [])
    1

abbrev pub load_after_sync : Script
load_after_sync = script
    ((allocate 0 4 4
    ∷ lock_all 0
    ∷ put 0 1 0 Int32 (5 ∷ [])
    ∷ flush 0 1
    ∷ Barrier
    ∷ UnlockAll 0
    ∷ [])
    ∷ (allocate 0 4 4
    ∷ lock_all 0
    ∷ Barrier
    ∷ Sync 0
    ∷ load 0 0 Int32 1
    ∷ UnlockAll 0
    ∷ [])
    ∷ [])

-- with a sync, and no finding
abbrev pub LoadsAfterASync : Type 0
LoadsAfterASync = Gives load_after_sync (plain_run load_after_sync) []
    (codes "ended"
    ∷ codes "1:4 value 5"
    ∷ codes "memory 1 0 0500000000000000"
    ∷ codes "summary accesses 2 touches 2 entries 12 refused 0 findings 0"
    ∷ [])
    0

abbrev pub store_beside_a_put : Script
store_beside_a_put = script
    ((allocate 0 16 1
    ∷ lock 0 Exclusive 1
    ∷ put 0 1 8 Byte (1 ∷ [])
    ∷ unlock 0 1
    ∷ [])
    ∷ (allocate 0 16 1
    ∷ store 0 0 Byte (1 ∷ [])
    ∷ [])
    ∷ [])

-- the pair is of the put and the store to another byte
abbrev pub ReportsTheStore : Type 0
ReportsTheStore = Gives store_beside_a_put (plain_run store_beside_a_put) (pair S3 0 3 1 2 ∷ [])
    (codes "ended"
    ∷ codes "memory 1 0 01000000000000000100000000000000"
    ∷ codes "finding S3 0:2 1:1"
    ∷ codes "summary accesses 2 touches 2 entries 6 refused 0 findings 1"
    ∷ [])
    1
