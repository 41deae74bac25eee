-- Runs with posts and starts: MPI 3.1, section 11.5.2.
use Rattle.std.specs.Prelude.{[], ◌∷◌, codes}
use Rattle.rma_types.specs.declared.accesses.Step.TheVariants.{One}
use Rattle.rma_types.specs.declared.calls.Call.TheVariants.{Barrier, Complete, TestWin, WaitWin}
use Rattle.rma_types.specs.declared.calls.Lock.TheVariants.{Shared}
use Rattle.rma_types.specs.declared.classes.Class.TheVariants.{Sync as SyncClass}
use Rattle.rma_types.specs.declared.dtypes.Dtype.TheVariants.{Int32}
use Rattle.rma_types.specs.declared.findings.Rule.TheVariants.{S2}
use Rattle.rma_types.specs.declared.schedules.Delay.TheVariants.{None as NoDelay}
use Rattle.rma_types.specs.declared.schedules.Order.TheVariants.{Greedy, Reverse, Seeded as SeededOrder}
use Rattle.rma_types.specs.declared.scripts.Script.{Script}
use Rattle.rma_record.specs.declared.items.Item.TheVariants.{Entry, Refused}
use Rattle.step_runs.specs.StepRun.{step_run}
use Rattle.run_examples.specs.Scripts.{Gives, HasItem, allocate, get, lock, pair, plain_run, post, put, script, start}
use Rattle.run_examples.specs.Scripts.{unlock}

abbrev pub put_and_get : Script
put_and_get = script
    ((allocate 0 4 4
    ∷ post 0 (1 ∷ 2 ∷ [])
    ∷ Barrier
    ∷ WaitWin 0
    ∷ [])
    ∷ (allocate 0 0 1
    ∷ start 0 (0 ∷ [])
    ∷ put 0 0 0 Int32 (5 ∷ [])
    ∷ Complete 0
    ∷ Barrier
    ∷ [])
    ∷ (allocate 0 0 1
    ∷ start 0 (0 ∷ [])
    ∷ Barrier
    ∷ get 0 0 0 Int32 1
    ∷ Complete 0
    ∷ [])
    ∷ [])

-- the pair is of the put and the get
abbrev pub ReportsTheGetBeforeTheWait : Type 0
ReportsTheGetBeforeTheWait = Gives put_and_get (plain_run put_and_get) (pair S2 1 3 2 5 ∷ [])
    (codes "ended"
    ∷ codes "2:3 value 5"
    ∷ codes "memory 0 0 0500000000000000"
    ∷ codes "finding S2 1:2 2:3"
    ∷ codes "summary accesses 2 touches 2 entries 18 refused 0 findings 1"
    ∷ [])
    1

abbrev pub lock_of_a_posted_rank : Script
lock_of_a_posted_rank = script
    ((allocate 0 4 4
    ∷ post 0 (1 ∷ [])
    ∷ Barrier
    ∷ WaitWin 0
    ∷ [])
    ∷ (allocate 0 4 4
    ∷ Barrier
    ∷ lock 0 Shared 0
    ∷ start 0 (0 ∷ [])
    ∷ Complete 0
    ∷ [])
    ∷ [])

-- the start after the refusal meets the post
abbrev pub RefusesALockOfAPostedRank : Type 0
RefusesALockOfAPostedRank = Gives lock_of_a_posted_rank (plain_run lock_of_a_posted_rank) []
    (codes "ended"
    ∷ codes "1:2 refused MPI_ERR_RMA_SYNC"
    ∷ codes "summary accesses 0 touches 0 entries 12 refused 1 findings 0"
    ∷ [])
    1

-- the look that refused the lock saw 9 entries, and the post has place 5
abbrev pub LooksAfterThePost : Type 0
LooksAfterThePost = HasItem (plain_run lock_of_a_posted_rank) 0 2 (Entry 1 5 One)
    × HasItem (plain_run lock_of_a_posted_rank) 1 4 (Refused 2 SyncClass 9)

abbrev pub post_of_a_locked_rank : Script
post_of_a_locked_rank = script
    ((allocate 0 4 4
    ∷ lock 0 Shared 0
    ∷ post 0 (0 ∷ [])
    ∷ unlock 0 0
    ∷ [])
    ∷ [])

-- the rank has locked itself
abbrev pub RefusesAPostOfALockedRank : Type 0
RefusesAPostOfALockedRank = Gives post_of_a_locked_rank (plain_run post_of_a_locked_rank) []
    (codes "ended"
    ∷ codes "0:2 refused MPI_ERR_RMA_SYNC"
    ∷ codes "summary accesses 0 touches 0 entries 4 refused 1 findings 0"
    ∷ [])
    1

abbrev pub two_tests : Script
two_tests = script
    ((allocate 0 4 4
    ∷ post 0 (1 ∷ [])
    ∷ TestWin 0
    ∷ Barrier
    ∷ Barrier
    ∷ TestWin 0
    ∷ [])
    ∷ (allocate 0 4 4
    ∷ Barrier
    ∷ start 0 (0 ∷ [])
    ∷ Complete 0
    ∷ Barrier
    ∷ [])
    ∷ [])

-- the next rank after the last one
abbrev pub TestsInRobin : Type 0
TestsInRobin = Gives two_tests (plain_run two_tests) []
    (codes "ended"
    ∷ codes "0:2 test false"
    ∷ codes "0:5 test true"
    ∷ codes "summary accesses 0 touches 0 entries 16 refused 0 findings 0"
    ∷ [])
    0

-- the next rank before the last one
abbrev pub TestsInReverse : Type 0
TestsInReverse = Gives two_tests (step_run two_tests Reverse NoDelay 0) []
    (codes "ended"
    ∷ codes "0:2 test false"
    ∷ codes "0:5 test true"
    ∷ codes "summary accesses 0 touches 0 entries 16 refused 0 findings 0"
    ∷ [])
    0

-- the lowest rank
abbrev pub TestsInGreedy : Type 0
TestsInGreedy = Gives two_tests (step_run two_tests Greedy NoDelay 0) []
    (codes "ended"
    ∷ codes "0:2 test false"
    ∷ codes "0:5 test true"
    ∷ codes "summary accesses 0 touches 0 entries 16 refused 0 findings 0"
    ∷ [])
    0

-- a drawn rank
abbrev pub TestsInSeeded : Type 0
TestsInSeeded = Gives two_tests (step_run two_tests SeededOrder NoDelay 0) []
    (codes "ended"
    ∷ codes "0:2 test false"
    ∷ codes "0:5 test true"
    ∷ codes "summary accesses 0 touches 0 entries 16 refused 0 findings 0"
    ∷ [])
    0
