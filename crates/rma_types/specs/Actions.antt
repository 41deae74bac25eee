-- What each call is: MPI 3.1, sections 11.2, 11.3 and 11.5. One table says it of all calls, and every other definition
-- goes by what a call is.
use Rattle.std.specs.Prelude.{ℕ, Bool, true, false, List, [], ◌∷◌, length, Option, Some, None, ℤ, pos}
use Rattle.std.specs.Option.{option_map_or}
use Rattle.rma_types.specs.declared.accesses.Kind.{Kind}
use Rattle.rma_types.specs.declared.accesses.Kind.TheVariants.{Get as GetKind, Put as PutKind, Acc as AccKind}
use Rattle.rma_types.specs.declared.accesses.Kind.TheVariants.{Cas as CasKind, Load as LoadKind, Store as StoreKind}
use Rattle.rma_types.specs.declared.actions.Action.{Action}
use Rattle.rma_types.specs.declared.actions.Action.TheVariants.{Creates, Frees, Attaches, Detaches, Synchronises, Meets}
use Rattle.rma_types.specs.declared.actions.Action.TheVariants.{Moves, EndsRequest}
use Rattle.rma_types.specs.declared.actions.Creation.{Creation}
use Rattle.rma_types.specs.declared.actions.Synchronisation.{Synchronisation}
use Rattle.rma_types.specs.declared.actions.Synchronisation.TheVariants.{Fences, Posts, Starts, Completes, Waits, Locks}
use Rattle.rma_types.specs.declared.actions.Synchronisation.TheVariants.{Unlocks, Flushes, Syncs}
use Rattle.rma_types.specs.declared.actions.Target.{Target}
use Rattle.rma_types.specs.declared.actions.Target.TheVariants.{Own, Null, Named}
use Rattle.rma_types.specs.declared.actions.Transfer.{Transfer}
use Rattle.rma_types.specs.declared.calls.Call.{Call}
use Rattle.rma_types.specs.declared.calls.Call.TheVariants.{Allocate, Create, Dynamic, Free, Attach, Detach, Fence}
use Rattle.rma_types.specs.declared.calls.Call.TheVariants.{Post, Start, Complete, WaitWin, TestWin, LockOne, Unlock}
use Rattle.rma_types.specs.declared.calls.Call.TheVariants.{LockAll, UnlockAll, Flush, FlushAll, FlushLocal}
use Rattle.rma_types.specs.declared.calls.Call.TheVariants.{FlushLocalAll, Sync, Barrier, Put, Get, Acc, GetAcc, Fop}
use Rattle.rma_types.specs.declared.calls.Call.TheVariants.{Cas, Load, Store, WaitReq, TestReq}
use Rattle.rma_types.specs.declared.calls.Flavor.{Flavor}
use Rattle.rma_types.specs.declared.calls.Flavor.TheVariants.{Allocate as AllocateFlavor, Create as CreateFlavor}
use Rattle.rma_types.specs.declared.calls.Flavor.TheVariants.{Dynamic as DynamicFlavor}
use Rattle.rma_types.specs.declared.calls.Lock.TheVariants.{Shared}
use Rattle.rma_types.specs.declared.dtypes.Dtype.{Dtype}
use Rattle.rma_types.specs.declared.ops.Op.{Op}
use Rattle.rma_types.specs.declared.ops.Op.TheVariants.{Replace, NoOp}

abbrev pub target_of : Option ℤ → Target
target_of None = Null
target_of (Some rank) = Named rank

-- one transfer for each call that moves data
abbrev pub put_transfer : Option ℕ → ℕ → Target → ℤ → Dtype → Kind → List ℕ → Transfer
put_transfer request win target disp dtype kind values = record {
  request = request;
  win = win;
  target = target;
  disp = disp;
  dtype = dtype;
  count = pos (length values);
  kind = kind;
  fetches = false;
  op = Replace;
  operands = values;
  compare = None;
}

abbrev pub get_transfer : Option ℕ → ℕ → Target → ℤ → Dtype → Kind → ℤ → Transfer
get_transfer request win target disp dtype kind count = record {
  request = request;
  win = win;
  target = target;
  disp = disp;
  dtype = dtype;
  count = count;
  kind = kind;
  fetches = true;
  op = NoOp;
  operands = [];
  compare = None;
}

abbrev pub accumulate_transfer : Option ℕ → ℕ → Target → ℤ → Dtype → Op → Bool → List ℕ → Transfer
accumulate_transfer request win target disp dtype op fetches values = record {
  request = request;
  win = win;
  target = target;
  disp = disp;
  dtype = dtype;
  count = pos (length values);
  kind = AccKind op dtype;
  fetches = fetches;
  op = op;
  operands = values;
  compare = None;
}

abbrev pub swap_transfer : ℕ → Target → ℤ → Dtype → ℕ → ℕ → Transfer
swap_transfer win target disp dtype compare new = record {
  request = None;
  win = win;
  target = target;
  disp = disp;
  dtype = dtype;
  count = pos 1;
  kind = CasKind dtype;
  fetches = true;
  op = Replace;
  operands = new ∷ [];
  compare = Some compare;
}

-- the table of all calls
abbrev pub action_of : Call → Action
action_of (Allocate win bytes unit) =
    Creates (record { win = win; flavor = AllocateFlavor; base = pos 0; bytes = bytes; unit = unit })
action_of (Create win base bytes unit) =
    Creates (record { win = win; flavor = CreateFlavor; base = base; bytes = bytes; unit = unit })
action_of (Dynamic win) =
    Creates (record { win = win; flavor = DynamicFlavor; base = pos 0; bytes = pos 0; unit = pos 1 })
action_of (Free win) = Frees win
action_of (Attach win base bytes) = Attaches win base bytes
action_of (Detach win base) = Detaches win base
action_of (Fence win asserts) = Synchronises win (Fences asserts)
action_of (Post win group asserts) = Synchronises win (Posts group asserts)
action_of (Start win group asserts) = Synchronises win (Starts group asserts)
action_of (Complete win) = Synchronises win Completes
action_of (WaitWin win) = Synchronises win (Waits false)
action_of (TestWin win) = Synchronises win (Waits true)
action_of (LockOne win kind target asserts) = Synchronises win (Locks kind (Some target) asserts)
action_of (Unlock win target) = Synchronises win (Unlocks (Some target))
action_of (LockAll win asserts) = Synchronises win (Locks Shared None asserts)
action_of (UnlockAll win) = Synchronises win (Unlocks None)
action_of (Flush win target) = Synchronises win (Flushes (Some target) false)
action_of (FlushAll win) = Synchronises win (Flushes None false)
action_of (FlushLocal win target) = Synchronises win (Flushes (Some target) true)
action_of (FlushLocalAll win) = Synchronises win (Flushes None true)
action_of (Sync win) = Synchronises win Syncs
action_of Barrier = Meets
action_of (Put req win target disp dtype values) = Moves
    (put_transfer req win (target_of target) disp dtype PutKind values)
action_of (Get req win target disp dtype count) = Moves
    (get_transfer req win (target_of target) disp dtype GetKind count)
action_of (Acc req win target disp dtype op values) =
    Moves (accumulate_transfer req win (target_of target) disp dtype op false values)
action_of (GetAcc req win target disp dtype op values) =
    Moves (accumulate_transfer req win (target_of target) disp dtype op true values)
action_of (Fop win target disp dtype op value) =
    Moves (accumulate_transfer None win (target_of target) disp dtype op true (value ∷ []))
action_of (Cas win target disp dtype compare new) = Moves (swap_transfer win (target_of target) disp dtype compare new)
action_of (Load win disp dtype count) = Moves (get_transfer None win Own disp dtype LoadKind count)
action_of (Store win disp dtype values) = Moves (put_transfer None win Own disp dtype StoreKind values)
action_of (WaitReq req) = EndsRequest req
action_of (TestReq req) = EndsRequest req

-- the transfer that an action is
abbrev pub transfer_in : Action → Option Transfer
transfer_in (Creates creation) = None
transfer_in (Frees win) = None
transfer_in (Attaches win base bytes) = None
transfer_in (Detaches win base) = None
transfer_in (Synchronises win synchronisation) = None
transfer_in Meets = None
transfer_in (Moves transfer) = Some transfer
transfer_in (EndsRequest req) = None

-- the transfer that a call makes, if it is one that moves data
abbrev pub transfer_of : Call → Option Transfer
transfer_of call = transfer_in (action_of call)

-- the window that an action names
abbrev pub window_in_action : Action → Option ℕ
window_in_action (Creates creation) = Some creation.win
window_in_action (Frees win) = Some win
window_in_action (Attaches win base bytes) = Some win
window_in_action (Detaches win base) = Some win
window_in_action (Synchronises win synchronisation) = Some win
window_in_action Meets = None
window_in_action (Moves transfer) = Some transfer.win
window_in_action (EndsRequest req) = None

-- the window that a call names
abbrev pub window_of_call : Call → Option ℕ
window_of_call call = window_in_action (action_of call)

-- the creation that an action is
abbrev pub creation_in : Action → Option Creation
creation_in (Creates creation) = Some creation
creation_in (Frees win) = None
creation_in (Attaches win base bytes) = None
creation_in (Detaches win base) = None
creation_in (Synchronises win synchronisation) = None
creation_in Meets = None
creation_in (Moves transfer) = None
creation_in (EndsRequest req) = None

abbrev pub creation_of : Call → Option Creation
creation_of call = creation_in (action_of call)

-- the synchronisation that an action is
abbrev pub synchronisation_in : Action → Option Synchronisation
synchronisation_in (Creates creation) = None
synchronisation_in (Frees win) = None
synchronisation_in (Attaches win base bytes) = None
synchronisation_in (Detaches win base) = None
synchronisation_in (Synchronises win synchronisation) = Some synchronisation
synchronisation_in Meets = None
synchronisation_in (Moves transfer) = None
synchronisation_in (EndsRequest req) = None

abbrev pub synchronisation_of : Call → Option Synchronisation
synchronisation_of call = synchronisation_in (action_of call)

abbrev pub tests_in : Synchronisation → Bool
tests_in (Fences asserts) = false
tests_in (Posts group asserts) = false
tests_in (Starts group asserts) = false
tests_in Completes = false
tests_in (Waits tests) = tests
tests_in (Locks kind target asserts) = false
tests_in (Unlocks target) = false
tests_in (Flushes target local) = false
tests_in Syncs = false

-- the call is a testwin
abbrev pub is_testwin : Call → Bool
is_testwin call = option_map_or tests_in (synchronisation_of call) false
