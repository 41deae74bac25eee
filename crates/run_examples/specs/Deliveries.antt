-- Accesses that are touched after their calls: MPI 3.1, section 11.7.
use Rattle.std.specs.Prelude.{◌≡◌, pos, [], ◌∷◌, Some, codes}
use Rattle.rma_types.specs.declared.calls.Call.TheVariants.{Barrier, Complete, FlushAll, FlushLocalAll, Get, Put, Sync}
use Rattle.rma_types.specs.declared.calls.Call.TheVariants.{TestReq, UnlockAll, WaitReq, WaitWin}
use Rattle.rma_types.specs.declared.calls.Lock.TheVariants.{Exclusive, Shared}
use Rattle.rma_types.specs.declared.dtypes.Dtype.TheVariants.{Int32}
use Rattle.rma_types.specs.declared.findings.Rule.TheVariants.{S1, S2}
use Rattle.rma_types.specs.declared.ops.Op.TheVariants.{Replace, Sum}
use Rattle.rma_types.specs.declared.schedules.Delay.TheVariants.{End as EndDelay, Seeded as SeededDelay}
use Rattle.rma_types.specs.declared.schedules.Order.TheVariants.{Greedy, Robin}
use Rattle.rma_types.specs.declared.scripts.Script.{Script}
use Rattle.step_runs.specs.Generator.{first_state, next_state, drawn_from, delivery_stream, order_stream}
use Rattle.step_runs.specs.StepRun.{step_run}
use Rattle.run_examples.specs.Scripts.{Gives, acc, allocate, fence, flush, flush_local, fop, get, load, lock, lock_all}
use Rattle.run_examples.specs.Scripts.{pair, plain_run, post, put, script, start, store, unlock}

abbrev pub put_and_load : Script
put_and_load = script
    ((allocate 0 4 4
    ∷ lock_all 0
    ∷ put 0 0 0 Int32 (5 ∷ [])
    ∷ load 0 0 Int32 1
    ∷ UnlockAll 0
    ∷ [])
    ∷ [])

-- the put is touched at the unlock_all
abbrev pub LoadsBeforeThePut : Type 0
LoadsBeforeThePut = Gives put_and_load (step_run put_and_load Robin EndDelay 0) (pair S1 0 3 0 4 ∷ [])
    (codes "ended"
    ∷ codes "0:3 value 0"
    ∷ codes "memory 0 0 0500000000000000"
    ∷ codes "finding S1 0:2 0:3"
    ∷ codes "summary accesses 2 touches 2 entries 4 refused 0 findings 1"
    ∷ [])
    1

-- the put is touched at once
abbrev pub LoadsAfterThePut : Type 0
LoadsAfterThePut = Gives put_and_load (plain_run put_and_load) (pair S1 0 3 0 5 ∷ [])
    (codes "ended"
    ∷ codes "0:3 value 5"
    ∷ codes "memory 0 0 0500000000000000"
    ∷ codes "finding S1 0:2 0:3"
    ∷ codes "summary accesses 2 touches 2 entries 4 refused 0 findings 1"
    ∷ [])
    1

abbrev pub put_and_wait : Script
put_and_wait = script
    ((allocate 0 4 4
    ∷ lock_all 0
    ∷ put 0 1 0 Int32 (5 ∷ [])
    ∷ Barrier
    ∷ [])
    ∷ (allocate 0 4 4
    ∷ fence 0
    ∷ [])
    ∷ [])

-- rank 0 stands in a barrier with its put pending
abbrev pub DeliversWhatAWaitingRankPut : Type 0
DeliversWhatAWaitingRankPut = Gives put_and_wait (step_run put_and_wait Robin EndDelay 0) []
    (codes "stuck"
    ∷ codes "0:3 waits barrier"
    ∷ codes "1:1 waits fence"
    ∷ codes "memory 1 0 0500000000000000"
    ∷ codes "summary accesses 1 touches 1 entries 7 refused 0 findings 0"
    ∷ [])
    7

abbrev pub locks_and_flush : Script
locks_and_flush = script
    ((allocate 0 8 4
    ∷ lock 0 Exclusive 0
    ∷ put 0 0 0 Int32 (5 ∷ [])
    ∷ unlock 0 0
    ∷ lock_all 0
    ∷ load 0 0 Int32 1
    ∷ put 0 0 1 Int32 (6 ∷ [])
    ∷ flush 0 0
    ∷ Sync 0
    ∷ load 0 1 Int32 1
    ∷ put 0 0 0 Int32 (7 ∷ [])
    ∷ UnlockAll 0
    ∷ lock 0 Shared 0
    ∷ load 0 0 Int32 1
    ∷ unlock 0 0
    ∷ [])
    ∷ [])

-- an unlock, a flush and an unlock_all, each with a put before it and a load after it
abbrev pub CompletesByUnlocksAndFlushes : Type 0
CompletesByUnlocksAndFlushes = Gives locks_and_flush (step_run locks_and_flush Robin EndDelay 0) []
    (codes "ended"
    ∷ codes "0:5 value 5"
    ∷ codes "0:9 value 6"
    ∷ codes "0:13 value 7"
    ∷ codes "memory 0 0 0700000006000000"
    ∷ codes "summary accesses 6 touches 6 entries 8 refused 0 findings 0"
    ∷ [])
    0

abbrev pub requested_gets : Script
requested_gets = script
    ((allocate 0 8 4
    ∷ lock_all 0
    ∷ Get (Some 0) 0 (Some (pos 0)) (pos 0) Int32 (pos 1)
    ∷ WaitReq 0
    ∷ store 0 0 Int32 (9 ∷ [])
    ∷ Get (Some 1) 0 (Some (pos 0)) (pos 1) Int32 (pos 1)
    ∷ TestReq 1
    ∷ store 0 1 Int32 (8 ∷ [])
    ∷ UnlockAll 0
    ∷ [])
    ∷ [])

-- a request that is waited for or tested, before a store to the place of its get
abbrev pub CompletesRequestedGets : Type 0
CompletesRequestedGets = Gives requested_gets (step_run requested_gets Robin EndDelay 0) []
    (codes "ended"
    ∷ codes "0:2 value 0"
    ∷ codes "0:5 value 0"
    ∷ codes "memory 0 0 0900000008000000"
    ∷ codes "summary accesses 4 touches 4 entries 4 refused 0 findings 0"
    ∷ [])
    0

abbrev pub requested_put : Script
requested_put = script
    ((allocate 0 4 4
    ∷ lock_all 0
    ∷ Put (Some 0) 0 (Some (pos 0)) (pos 0) Int32 (5 ∷ [])
    ∷ WaitReq 0
    ∷ load 0 0 Int32 1
    ∷ UnlockAll 0
    ∷ [])
    ∷ [])

-- the request of a put is done at its origin alone
abbrev pub LeavesTheRequestedPut : Type 0
LeavesTheRequestedPut = Gives requested_put (step_run requested_put Robin EndDelay 0) (pair S1 0 3 0 5 ∷ [])
    (codes "ended"
    ∷ codes "0:4 value 0"
    ∷ codes "memory 0 0 0500000000000000"
    ∷ codes "finding S1 0:2 0:4"
    ∷ codes "summary accesses 2 touches 2 entries 4 refused 0 findings 1"
    ∷ [])
    1

abbrev pub started_put : Script
started_put = script
    ((allocate 0 4 4
    ∷ post 0 (1 ∷ [])
    ∷ WaitWin 0
    ∷ load 0 0 Int32 1
    ∷ [])
    ∷ (allocate 0 4 4
    ∷ start 0 (0 ∷ [])
    ∷ put 0 0 0 Int32 (5 ∷ [])
    ∷ Complete 0
    ∷ [])
    ∷ [])

-- the lowest rank has each turn that it may have, and loads before the other one ends
abbrev pub CompletesByComplete : Type 0
CompletesByComplete = Gives started_put (step_run started_put Greedy EndDelay 0) []
    (codes "ended"
    ∷ codes "0:3 value 5"
    ∷ codes "memory 0 0 0500000000000000"
    ∷ codes "summary accesses 2 touches 2 entries 8 refused 0 findings 0"
    ∷ [])
    0

abbrev pub flush_of_another : Script
flush_of_another = script
    ((allocate 0 4 4
    ∷ lock_all 0
    ∷ put 0 1 0 Int32 (5 ∷ [])
    ∷ flush 0 0
    ∷ Barrier
    ∷ Barrier
    ∷ UnlockAll 0
    ∷ [])
    ∷ (allocate 0 4 4
    ∷ lock_all 0
    ∷ Barrier
    ∷ load 0 0 Int32 1
    ∷ Barrier
    ∷ UnlockAll 0
    ∷ [])
    ∷ [])

-- a flush of one rank leaves the put to another one pending
abbrev pub LeavesThePutToAnother : Type 0
LeavesThePutToAnother = Gives flush_of_another (step_run flush_of_another Robin EndDelay 0) (pair S1 0 3 1 5 ∷ [])
    (codes "ended"
    ∷ codes "1:3 value 0"
    ∷ codes "memory 1 0 0500000000000000"
    ∷ codes "finding S1 0:2 1:3"
    ∷ codes "summary accesses 2 touches 2 entries 16 refused 0 findings 1"
    ∷ [])
    1

abbrev pub sum_before_fop : Script
sum_before_fop = script
    ((allocate 0 4 4
    ∷ lock_all 0
    ∷ acc 0 0 0 Int32 Sum (3 ∷ [])
    ∷ fop 0 0 0 Int32 Sum 4
    ∷ flush_local 0 0
    ∷ UnlockAll 0
    ∷ [])
    ∷ [])

-- a local flush completes what fetches, which gives way to the earlier accumulate of its cell
abbrev pub GivesWayToTheFirstSum : Type 0
GivesWayToTheFirstSum = Gives sum_before_fop (step_run sum_before_fop Robin EndDelay 0) []
    (codes "ended"
    ∷ codes "0:3 value 3"
    ∷ codes "memory 0 0 0700000000000000"
    ∷ codes "summary accesses 2 touches 2 entries 4 refused 0 findings 0"
    ∷ [])
    0

abbrev pub three_sums : Script
three_sums = script
    ((allocate 0 8 4
    ∷ lock_all 0
    ∷ acc 0 0 0 Int32 Replace (5 ∷ [])
    ∷ acc 0 0 0 Int32 Sum (1 ∷ 1 ∷ [])
    ∷ fop 0 0 1 Int32 Sum 2
    ∷ flush_local 0 0
    ∷ UnlockAll 0
    ∷ [])
    ∷ [])

-- the last gives way to the second, which gives way to the first
abbrev pub GivesWayThroughAnother : Type 0
GivesWayThroughAnother = Gives three_sums (step_run three_sums Robin EndDelay 0) []
    (codes "ended"
    ∷ codes "0:4 value 1"
    ∷ codes "memory 0 0 0600000003000000"
    ∷ codes "summary accesses 3 touches 4 entries 4 refused 0 findings 0"
    ∷ [])
    0

abbrev pub put_and_get : Script
put_and_get = script
    ((allocate 0 4 4
    ∷ lock_all 0
    ∷ put 0 0 0 Int32 (5 ∷ [])
    ∷ get 0 0 0 Int32 1
    ∷ FlushLocalAll 0
    ∷ FlushAll 0
    ∷ Sync 0
    ∷ load 0 0 Int32 1
    ∷ UnlockAll 0
    ∷ [])
    ∷ [])

-- a local flush completes the get alone, and a flush the put
abbrev pub CompletesByFlushes : Type 0
CompletesByFlushes = Gives put_and_get (step_run put_and_get Robin EndDelay 0) (pair S2 0 3 0 4 ∷ [])
    (codes "ended"
    ∷ codes "0:3 value 0"
    ∷ codes "0:7 value 5"
    ∷ codes "memory 0 0 0500000000000000"
    ∷ codes "finding S2 0:2 0:3"
    ∷ codes "summary accesses 3 touches 3 entries 4 refused 0 findings 1"
    ∷ [])
    1

-- the draws of the order's stream from seed 1
abbrev pub DrawsByTheGenerator : Type 0
DrawsByTheGenerator =
    let first = next_state (first_state 1 order_stream) in
    let second = next_state first in
    let third = next_state second in
    drawn_from first ∷ drawn_from second ∷ drawn_from third ∷ [] ≡ 1456530643 ∷ 1542738009 ∷ 103528102 ∷ []

-- the first draw of rank 3's deliveries from seed 7, and of those of rank 0 from seed 0
abbrev pub DrawsForEachRank : Type 0
DrawsForEachRank =
    drawn_from (next_state (first_state 7 (delivery_stream 3)))
    ∷ drawn_from (next_state (first_state 0 (delivery_stream 0))) ∷ []
    ≡ 1446204326 ∷ 167951807 ∷ []

-- the draw before the load is odd
abbrev pub DeliversAtAnOddDraw : Type 0
DeliversAtAnOddDraw = Gives put_and_load (step_run put_and_load Robin SeededDelay 0) (pair S1 0 3 0 5 ∷ [])
    (codes "ended"
    ∷ codes "0:3 value 5"
    ∷ codes "memory 0 0 0500000000000000"
    ∷ codes "finding S1 0:2 0:3"
    ∷ codes "summary accesses 2 touches 2 entries 4 refused 0 findings 1"
    ∷ [])
    1

-- the draw before the load is even
abbrev pub WaitsAtAnEvenDraw : Type 0
WaitsAtAnEvenDraw = Gives put_and_load (step_run put_and_load Robin SeededDelay 2) (pair S1 0 3 0 4 ∷ [])
    (codes "ended"
    ∷ codes "0:3 value 0"
    ∷ codes "memory 0 0 0500000000000000"
    ∷ codes "finding S1 0:2 0:3"
    ∷ codes "summary accesses 2 touches 2 entries 4 refused 0 findings 1"
    ∷ [])
    1

abbrev pub two_puts : Script
two_puts = script
    ((allocate 0 8 4
    ∷ lock_all 0
    ∷ put 0 0 0 Int32 (5 ∷ [])
    ∷ put 0 0 1 Int32 (6 ∷ [])
    ∷ load 0 0 Int32 2
    ∷ UnlockAll 0
    ∷ [])
    ∷ [])

-- the draw before the load is odd, and half of it is even
abbrev pub DeliversTheFirst : Type 0
DeliversTheFirst = Gives two_puts (step_run two_puts Robin SeededDelay 2) (pair S1 0 3 0 6 ∷ [])
    (codes "ended"
    ∷ codes "0:4 value 5 0"
    ∷ codes "memory 0 0 0500000006000000"
    ∷ codes "finding S1 0:2 0:4"
    ∷ codes "summary accesses 3 touches 4 entries 4 refused 0 findings 1"
    ∷ [])
    1

-- the draw before the load is odd, and half of it is odd
abbrev pub DeliversTheSecond : Type 0
DeliversTheSecond = Gives two_puts (step_run two_puts Robin SeededDelay 12) (pair S1 0 3 0 6 ∷ [])
    (codes "ended"
    ∷ codes "0:4 value 0 6"
    ∷ codes "memory 0 0 0500000006000000"
    ∷ codes "finding S1 0:2 0:4"
    ∷ codes "summary accesses 3 touches 4 entries 4 refused 0 findings 1"
    ∷ [])
    1
