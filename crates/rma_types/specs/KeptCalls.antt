-- What is kept of the call of an entry: the call without its values. This project's profile of MPI 3.1, section 11.5.
use Rattle.std.specs.Prelude.{ℕ, Bool, true, false, List, []}
use Rattle.rma_types.specs.declared.calls.Call.{Call}
use Rattle.rma_types.specs.declared.calls.Call.TheVariants.{Allocate, Create, Dynamic, Free, Attach, Detach, Fence}
use Rattle.rma_types.specs.declared.calls.Call.TheVariants.{Post, Start, Complete, WaitWin, TestWin, LockOne, Unlock}
use Rattle.rma_types.specs.declared.calls.Call.TheVariants.{LockAll, UnlockAll, Flush, FlushAll, FlushLocal}
use Rattle.rma_types.specs.declared.calls.Call.TheVariants.{FlushLocalAll, Sync, Barrier, Put, Get, Acc, GetAcc, Fop}
use Rattle.rma_types.specs.declared.calls.Call.TheVariants.{Cas, Load, Store, WaitReq, TestReq}

-- the call with its list of values left out
abbrev pub kept_call : Call → Call
kept_call (Allocate win bytes unit) = Allocate win bytes unit
kept_call (Create win base bytes unit) = Create win base bytes unit
kept_call (Dynamic win) = Dynamic win
kept_call (Free win) = Free win
kept_call (Attach win base bytes) = Attach win base bytes
kept_call (Detach win base) = Detach win base
kept_call (Fence win asserts) = Fence win asserts
kept_call (Post win group asserts) = Post win group asserts
kept_call (Start win group asserts) = Start win group asserts
kept_call (Complete win) = Complete win
kept_call (WaitWin win) = WaitWin win
kept_call (TestWin win) = TestWin win
kept_call (LockOne win kind target asserts) = LockOne win kind target asserts
kept_call (Unlock win target) = Unlock win target
kept_call (LockAll win asserts) = LockAll win asserts
kept_call (UnlockAll win) = UnlockAll win
kept_call (Flush win target) = Flush win target
kept_call (FlushAll win) = FlushAll win
kept_call (FlushLocal win target) = FlushLocal win target
kept_call (FlushLocalAll win) = FlushLocalAll win
kept_call (Sync win) = Sync win
kept_call Barrier = Barrier
kept_call (Put req win target disp dtype values) = Put req win target disp dtype []
kept_call (Get req win target disp dtype count) = Get req win target disp dtype count
kept_call (Acc req win target disp dtype op values) = Acc req win target disp dtype op []
kept_call (GetAcc req win target disp dtype op values) = GetAcc req win target disp dtype op []
kept_call (Fop win target disp dtype op value) = Fop win target disp dtype op value
kept_call (Cas win target disp dtype compare new) = Cas win target disp dtype compare new
kept_call (Load win disp dtype count) = Load win disp dtype count
kept_call (Store win disp dtype values) = Store win disp dtype []
kept_call (WaitReq req) = WaitReq req
kept_call (TestReq req) = TestReq req

-- the values, or none of them
abbrev pub values_of : Bool → List ℕ → List ℕ
values_of true values = values
values_of false values = []

-- the call, whole or without its values
abbrev pub copy_of : Bool → Call → Call
copy_of true call = call
copy_of false call = kept_call call
