-- Calls that are refused, names that are used again, and requests: MPI 3.1, sections 11.2, 11.5 and 11.6.
use Rattle.std.specs.Prelude.{true, pos, negsuc, [], ◌∷◌, Some, None, codes}
use Rattle.rma_types.specs.declared.calls.Call.TheVariants.{Allocate, Complete, Fence, FlushAll, FlushLocalAll, Free}
use Rattle.rma_types.specs.declared.calls.Call.TheVariants.{Get, LockAll, LockOne, Post, Put, Start, Sync, TestReq}
use Rattle.rma_types.specs.declared.calls.Call.TheVariants.{TestWin, UnlockAll, WaitReq, WaitWin}
use Rattle.rma_types.specs.declared.calls.Lock.TheVariants.{Shared}
use Rattle.rma_types.specs.declared.dtypes.Dtype.TheVariants.{Int32}
use Rattle.rma_types.specs.declared.findings.Rule.TheVariants.{S2}
use Rattle.rma_types.specs.declared.scripts.Script.{Script}
use Rattle.run_examples.specs.Scripts.{no_asserts}
use Rattle.run_examples.specs.Scripts.{Gives, allocate, attach, create, fence, flush, get, load, lock, lock_all, pair}
use Rattle.run_examples.specs.Scripts.{plain_run, post, put, script, spaced_script, start, store, unlock}

abbrev pub before_a_fence : Script
before_a_fence = script
    ((allocate 0 4 4
    ∷ put 0 0 0 Int32 (1 ∷ [])
    ∷ fence 0
    ∷ [])
    ∷ [])

-- a put needs an epoch, and a fence none
abbrev pub RefusesBeforeAFence : Type 0
RefusesBeforeAFence = Gives before_a_fence (plain_run before_a_fence) []
    (codes "ended"
    ∷ codes "0:1 refused MPI_ERR_RMA_SYNC"
    ∷ codes "summary accesses 0 touches 0 entries 4 refused 1 findings 0"
    ∷ [])
    1

abbrev pub outside_epochs : Script
outside_epochs = script
    ((allocate 0 4 4
    ∷ put 0 0 0 Int32 (1 ∷ [])
    ∷ fence 0
    ∷ Put (Some 0) 0 (Some (pos 0)) (pos 0) Int32 (1 ∷ [])
    ∷ flush 0 0
    ∷ put 0 0 0 Int32 (3 ∷ [])
    ∷ fence 0
    ∷ [])
    ∷ [])

-- before the first fence, and requests and flushes in a fence epoch
abbrev pub RefusesOutsideEpochs : Type 0
RefusesOutsideEpochs = Gives outside_epochs (plain_run outside_epochs) []
    (codes "ended"
    ∷ codes "0:1 refused MPI_ERR_RMA_SYNC"
    ∷ codes "0:3 refused MPI_ERR_RMA_SYNC"
    ∷ codes "0:4 refused MPI_ERR_RMA_SYNC"
    ∷ codes "memory 0 0 0300000000000000"
    ∷ codes "summary accesses 1 touches 1 entries 6 refused 3 findings 0"
    ∷ [])
    1

abbrev pub no_succeeding : Script
no_succeeding = script
    ((allocate 0 4 4
    ∷ Fence 0 (record no_asserts { nosucceed = true })
    ∷ put 0 0 0 Int32 (1 ∷ [])
    ∷ lock_all 0
    ∷ UnlockAll 0
    ∷ [])
    ∷ [])

-- a fence with nosucceed begins no epoch
abbrev pub EndsFencesByNosucceed : Type 0
EndsFencesByNosucceed = Gives no_succeeding (plain_run no_succeeding) []
    (codes "ended"
    ∷ codes "0:2 refused MPI_ERR_RMA_SYNC"
    ∷ codes "summary accesses 0 touches 0 entries 6 refused 1 findings 0"
    ∷ [])
    1

abbrev pub two_assertions : Script
two_assertions = script
    ((allocate 0 4 4
    ∷ Fence 0 (record no_asserts { nosucceed = true })
    ∷ fence 0
    ∷ [])
    ∷ (allocate 0 4 4
    ∷ fence 0
    ∷ [])
    ∷ [])

-- the ranks of a fence agree in nosucceed: here rank 1 comes first
abbrev pub RefusesAnotherAssertion : Type 0
RefusesAnotherAssertion = Gives two_assertions (plain_run two_assertions) []
    (codes "ended"
    ∷ codes "0:1 refused MPI_ERR_ASSERT"
    ∷ codes "summary accesses 0 touches 0 entries 8 refused 1 findings 0"
    ∷ [])
    1

abbrev pub each_test : Script
each_test = spaced_script (16 ∷ [])
    ((fence 0
    ∷ Allocate 0 (negsuc 0) (pos 4)
    ∷ create 0 8 16 4
    ∷ create 0 0 16 0
    ∷ create 0 0 16 4
    ∷ allocate 0 4 4
    ∷ attach 0 0 4
    ∷ Fence 0 (record no_asserts { nocheck = true })
    ∷ fence 0
    ∷ get 0 1 0 Int32 1
    ∷ Get None 0 (Some (pos 0)) (pos 0) Int32 (negsuc 0)
    ∷ Put None 0 (Some (pos 0)) (negsuc 0) Int32 (5 ∷ [])
    ∷ WaitReq 0
    ∷ put 0 0 0 Int32 (5 ∷ [])
    ∷ Fence 0 (record no_asserts { noprecede = true })
    ∷ Free 0
    ∷ fence 0
    ∷ Free 0
    ∷ put 0 0 0 Int32 (1 ∷ [])
    ∷ [])
    ∷ [])

-- calls that are refused by the tests of a rank, and accepted ones between them
abbrev pub RefusesByEachTest : Type 0
RefusesByEachTest = Gives each_test (plain_run each_test) []
    (codes "ended"
    ∷ codes "0:0 refused MPI_ERR_WIN"
    ∷ codes "0:1 refused MPI_ERR_SIZE"
    ∷ codes "0:2 refused MPI_ERR_BASE"
    ∷ codes "0:3 refused MPI_ERR_DISP"
    ∷ codes "0:5 refused MPI_ERR_WIN"
    ∷ codes "0:6 refused MPI_ERR_RMA_FLAVOR"
    ∷ codes "0:7 refused MPI_ERR_ASSERT"
    ∷ codes "0:9 refused MPI_ERR_RANK"
    ∷ codes "0:10 refused MPI_ERR_COUNT"
    ∷ codes "0:11 refused MPI_ERR_DISP"
    ∷ codes "0:12 refused MPI_ERR_REQUEST"
    ∷ codes "0:14 refused MPI_ERR_ASSERT"
    ∷ codes "0:15 refused MPI_ERR_RMA_SYNC"
    ∷ codes "0:18 refused MPI_ERR_WIN"
    ∷ codes "memory 0 0 050000000000000000000000000000000000000000000000"
    ∷ codes "summary accesses 1 touches 1 entries 8 refused 14 findings 0"
    ∷ [])
    1

abbrev pub assertions_and_ranks : Script
assertions_and_ranks = script
    ((allocate 0 4 4
    ∷ Post 0 (pos 0 ∷ []) (record no_asserts { noprecede = true })
    ∷ Start 0 (pos 0 ∷ []) (record no_asserts { nostore = true })
    ∷ LockOne 0 Shared (pos 0) (record no_asserts { nostore = true })
    ∷ LockAll 0 (record no_asserts { noput = true })
    ∷ Post 0 (pos 0 ∷ []) (record no_asserts { nocheck = true })
    ∷ Start 0 (pos 0 ∷ []) (record no_asserts { nocheck = true })
    ∷ Complete 0
    ∷ WaitWin 0
    ∷ post 0 (0 ∷ 0 ∷ [])
    ∷ lock 0 Shared 1
    ∷ [])
    ∷ [])

-- assertions that are not for the call, a rank that is named twice, and one that is not there
abbrev pub RefusesAssertionsAndRanks : Type 0
RefusesAssertionsAndRanks = Gives assertions_and_ranks (plain_run assertions_and_ranks) []
    (codes "ended"
    ∷ codes "0:1 refused MPI_ERR_ASSERT"
    ∷ codes "0:2 refused MPI_ERR_ASSERT"
    ∷ codes "0:3 refused MPI_ERR_ASSERT"
    ∷ codes "0:4 refused MPI_ERR_ASSERT"
    ∷ codes "0:9 refused MPI_ERR_RANK"
    ∷ codes "0:10 refused MPI_ERR_RANK"
    ∷ codes "summary accesses 0 touches 0 entries 6 refused 6 findings 0"
    ∷ [])
    1

abbrev pub each_epoch : Script
each_epoch = script
    ((allocate 0 8 4
    ∷ Complete 0
    ∷ WaitWin 0
    ∷ TestWin 0
    ∷ unlock 0 0
    ∷ UnlockAll 0
    ∷ flush 0 0
    ∷ FlushAll 0
    ∷ Sync 0
    ∷ lock 0 Shared 0
    ∷ lock 0 Shared 0
    ∷ lock_all 0
    ∷ fence 0
    ∷ Free 0
    ∷ start 0 (0 ∷ [])
    ∷ Sync 0
    ∷ FlushLocalAll 0
    ∷ UnlockAll 0
    ∷ unlock 0 0
    ∷ fence 0
    ∷ flush 0 0
    ∷ post 0 (0 ∷ [])
    ∷ put 0 0 0 Int32 (1 ∷ [])
    ∷ post 0 (0 ∷ [])
    ∷ fence 0
    ∷ Free 0
    ∷ start 0 (0 ∷ [])
    ∷ lock 0 Shared 0
    ∷ put 0 0 0 Int32 (5 ∷ [])
    ∷ Put (Some 0) 0 (Some (pos 0)) (pos 0) Int32 (5 ∷ [])
    ∷ Complete 0
    ∷ WaitWin 0
    ∷ fence 0
    ∷ put 0 0 1 Int32 (6 ∷ [])
    ∷ post 0 (0 ∷ [])
    ∷ lock_all 0
    ∷ start 0 (0 ∷ [])
    ∷ Free 0
    ∷ fence 0
    ∷ lock_all 0
    ∷ lock 0 Shared 0
    ∷ unlock 0 0
    ∷ Put (Some 0) 0 (Some (pos 0)) (pos 0) Int32 (7 ∷ [])
    ∷ UnlockAll 0
    ∷ Free 0
    ∷ [])
    ∷ [])

-- calls in each epoch of a window, in those that allow them and in others
abbrev pub FollowsTheEpochs : Type 0
FollowsTheEpochs = Gives each_epoch (plain_run each_epoch) []
    (codes "ended"
    ∷ codes "0:1 refused MPI_ERR_RMA_SYNC"
    ∷ codes "0:2 refused MPI_ERR_RMA_SYNC"
    ∷ codes "0:3 refused MPI_ERR_RMA_SYNC"
    ∷ codes "0:4 refused MPI_ERR_RMA_SYNC"
    ∷ codes "0:5 refused MPI_ERR_RMA_SYNC"
    ∷ codes "0:6 refused MPI_ERR_RMA_SYNC"
    ∷ codes "0:7 refused MPI_ERR_RMA_SYNC"
    ∷ codes "0:8 refused MPI_ERR_RMA_SYNC"
    ∷ codes "0:10 refused MPI_ERR_RMA_SYNC"
    ∷ codes "0:11 refused MPI_ERR_RMA_SYNC"
    ∷ codes "0:12 refused MPI_ERR_RMA_SYNC"
    ∷ codes "0:13 refused MPI_ERR_RMA_SYNC"
    ∷ codes "0:14 refused MPI_ERR_RMA_SYNC"
    ∷ codes "0:17 refused MPI_ERR_RMA_SYNC"
    ∷ codes "0:20 refused MPI_ERR_RMA_SYNC"
    ∷ codes "0:22 refused MPI_ERR_RMA_SYNC"
    ∷ codes "0:23 refused MPI_ERR_RMA_SYNC"
    ∷ codes "0:24 refused MPI_ERR_RMA_SYNC"
    ∷ codes "0:25 refused MPI_ERR_RMA_SYNC"
    ∷ codes "0:27 refused MPI_ERR_RMA_SYNC"
    ∷ codes "0:29 refused MPI_ERR_RMA_SYNC"
    ∷ codes "0:34 refused MPI_ERR_RMA_SYNC"
    ∷ codes "0:35 refused MPI_ERR_RMA_SYNC"
    ∷ codes "0:36 refused MPI_ERR_RMA_SYNC"
    ∷ codes "0:37 refused MPI_ERR_RMA_SYNC"
    ∷ codes "0:40 refused MPI_ERR_RMA_SYNC"
    ∷ codes "0:41 refused MPI_ERR_RMA_SYNC"
    ∷ codes "memory 0 0 0700000006000000"
    ∷ codes "summary accesses 3 touches 3 entries 18 refused 27 findings 0"
    ∷ [])
    1

abbrev pub name_used_again : Script
name_used_again = script
    ((allocate 0 4 4
    ∷ store 0 0 Int32 (9 ∷ [])
    ∷ Free 0
    ∷ allocate 0 4 4
    ∷ load 0 0 Int32 1
    ∷ [])
    ∷ [])

-- the second window of a name does not see what was stored in the first
abbrev pub HasItsOwnMemory : Type 0
HasItsOwnMemory = Gives name_used_again (plain_run name_used_again) []
    (codes "ended"
    ∷ codes "0:4 value 0"
    ∷ codes "memory 0 0 09000000000000000000000000000000"
    ∷ codes "summary accesses 2 touches 2 entries 6 refused 0 findings 0"
    ∷ [])
    0

abbrev pub two_requests : Script
two_requests = script
    ((allocate 0 8 4
    ∷ lock_all 0
    ∷ Get (Some 0) 0 (Some (pos 0)) (pos 0) Int32 (pos 1)
    ∷ WaitReq 0
    ∷ put 0 0 0 Int32 (4 ∷ [])
    ∷ Put (Some 0) 0 (Some (pos 0)) (pos 1) Int32 (5 ∷ [])
    ∷ TestReq 0
    ∷ put 0 0 1 Int32 (6 ∷ [])
    ∷ UnlockAll 0
    ∷ [])
    ∷ [])

-- a get and a put with requests; the pair that is given is of the two puts to one place
abbrev pub CompletesRequests : Type 0
CompletesRequests = Gives two_requests (plain_run two_requests) (pair S2 0 8 0 11 ∷ [])
    (codes "ended"
    ∷ codes "0:2 value 0"
    ∷ codes "memory 0 0 0400000006000000"
    ∷ codes "finding S2 0:5 0:7"
    ∷ codes "summary accesses 4 touches 4 entries 4 refused 0 findings 1"
    ∷ [])
    1
