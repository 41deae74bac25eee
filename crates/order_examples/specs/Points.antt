-- The done points and the visible points of accesses, a point of each kind: MPI 3.1, sections 11.3.5, 11.5 and 11.7.
use Rattle.std.specs.Prelude.{◌≡◌, [], ◌∷◌}
use Rattle.rma_types.specs.declared.calls.Call.TheVariants.{Free, Sync, UnlockAll, WaitWin}
use Rattle.rma_types.specs.declared.calls.Lock.TheVariants.{Exclusive}
use Rattle.rma_types.specs.declared.dtypes.Dtype.TheVariants.{Int32}
use Rattle.rma_types.specs.declared.findings.Model.TheVariants.{Unified}
use Rattle.rma_types.specs.declared.scripts.Script.{Script}
use Rattle.order_rules.specs.VisiblePoints.{visible_points_of}
use Rattle.run_examples.specs.Locks.{get_then_put, put_then_get}
use Rattle.run_examples.specs.Posts.{put_and_get}
use Rattle.run_examples.specs.Scripts.{allocate, fence, flush, lock, lock_all, plain_run, post, put, script, store}
use Rattle.run_examples.specs.Scripts.{unlock}
use Rattle.order_examples.specs.Judged.{IsDoneAt, IsVisibleAt, item, order_of}
use Rattle.order_examples.specs.Requests.{requests}

-- a store and a put, and then each synchronisation that a rank can make alone
abbrev pub each_synchronisation : Script
each_synchronisation = script
    ((allocate 0 8 4
    ∷ store 0 0 Int32 (1 ∷ [])
    ∷ lock_all 0
    ∷ put 0 0 1 Int32 (2 ∷ [])
    ∷ flush 0 0
    ∷ UnlockAll 0
    ∷ fence 0
    ∷ post 0 []
    ∷ WaitWin 0
    ∷ lock 0 Exclusive 0
    ∷ unlock 0 0
    ∷ lock_all 0
    ∷ Sync 0
    ∷ UnlockAll 0
    ∷ Free 0
    ∷ [])
    ∷ [])

-- the flush, the unlock_all, and the unlock and the unlock_all of later epochs
abbrev pub IsDoneInLaterEpochs : Type 0
IsDoneInLaterEpochs = IsDoneAt each_synchronisation (plain_run each_synchronisation) (item 0 5)
    (item 0 7 ∷ item 0 8 ∷ item 0 14 ∷ item 0 17 ∷ [])

-- the leave of the fence, the wait, the lock, the lock_all, the sync and the leave of the free
abbrev pub IsTakenIn : Type 0
IsTakenIn = IsVisibleAt each_synchronisation (plain_run each_synchronisation) (item 0 5)
    (item 0 10 ∷ item 0 12 ∷ item 0 13 ∷ item 0 15 ∷ item 0 16 ∷ item 0 19 ∷ [])

-- the unlock_all, the arrival at the fence, the post, the unlock, the sync, the unlock_all and the arrival at the free
abbrev pub IsGivenOut : Type 0
IsGivenOut = IsVisibleAt each_synchronisation (plain_run each_synchronisation) (item 0 2)
    (item 0 8 ∷ item 0 9 ∷ item 0 11 ∷ item 0 14 ∷ item 0 16 ∷ item 0 17 ∷ item 0 18 ∷ [])

-- in the unified model the put is visible where it is done, and the store at its Issue
abbrev pub IsVisibleWhereDone : Type 0
IsVisibleWhereDone =
    let run = plain_run each_synchronisation in
    let visible = visible_points_of each_synchronisation run Unified (order_of each_synchronisation run) in
    (visible (item 0 5) ≡ item 0 7 ∷ item 0 8 ∷ item 0 14 ∷ item 0 17 ∷ []) × (visible (item 0 2) ≡ item 0 2 ∷ [])

-- a get in a start epoch: the wait of its target, and its own complete
abbrev pub IsDoneAtWaitAndComplete : Type 0
IsDoneAtWaitAndComplete =
    IsDoneAt put_and_get (plain_run put_and_get) (item 2 5) (item 0 5 ∷ item 2 7 ∷ [])

-- a put in a start epoch: the wait of its target alone
abbrev pub IsDoneAtWait : Type 0
IsDoneAtWait = IsDoneAt put_and_get (plain_run put_and_get) (item 1 3) (item 0 5 ∷ [])

-- a get: the local flush, and the unlock
abbrev pub IsDoneAtLocalFlush : Type 0
IsDoneAtLocalFlush = IsDoneAt get_then_put (plain_run get_then_put) (item 0 3) (item 0 5 ∷ item 0 8 ∷ [])

-- a put before a local flush: the unlock alone
abbrev pub IsNotDoneAtLocalFlush : Type 0
IsNotDoneAtLocalFlush = IsDoneAt put_then_get (plain_run put_then_get) (item 0 3) (item 0 8 ∷ [])

-- a get with a request: its waitreq, and not the testreq of a later request of that name
abbrev pub IsDoneAtItsRequest : Type 0
IsDoneAtItsRequest = IsDoneAt requests (plain_run requests) (item 0 3) (item 0 5 ∷ item 0 13 ∷ [])
