-- The word that begins each call's line: this project's script language.
use Rattle.std.specs.Prelude.{ℕ, List, codes, Option, Some, None}
use Rattle.rma_types.specs.declared.calls.Call.{Call}
use Rattle.rma_types.specs.declared.calls.Call.TheVariants.{Allocate, Create, Dynamic, Free, Attach, Detach, Fence}
use Rattle.rma_types.specs.declared.calls.Call.TheVariants.{Post, Start, Complete, WaitWin, TestWin, LockOne, Unlock}
use Rattle.rma_types.specs.declared.calls.Call.TheVariants.{LockAll, UnlockAll, Flush, FlushAll, FlushLocal}
use Rattle.rma_types.specs.declared.calls.Call.TheVariants.{FlushLocalAll, Sync, Barrier, Put, Get, Acc, GetAcc, Fop}
use Rattle.rma_types.specs.declared.calls.Call.TheVariants.{Cas, Load, Store, WaitReq, TestReq}

-- the plain word, or the word of the form that makes a request
abbrev pub word_by_request : Option ℕ → List ℕ → List ℕ → List ℕ
word_by_request None plain request = plain
word_by_request (Some name) plain request = request

abbrev pub word_of : Call → List ℕ
word_of (Allocate win bytes unit) = codes "allocate"
word_of (Create win base bytes unit) = codes "create"
word_of (Dynamic win) = codes "dynamic"
word_of (Free win) = codes "free"
word_of (Attach win base bytes) = codes "attach"
word_of (Detach win base) = codes "detach"
word_of (Fence win asserts) = codes "fence"
word_of (Post win group asserts) = codes "post"
word_of (Start win group asserts) = codes "start"
word_of (Complete win) = codes "complete"
word_of (WaitWin win) = codes "wait"
word_of (TestWin win) = codes "testwin"
word_of (LockOne win kind target asserts) = codes "lock"
word_of (Unlock win target) = codes "unlock"
word_of (LockAll win asserts) = codes "lock_all"
word_of (UnlockAll win) = codes "unlock_all"
word_of (Flush win target) = codes "flush"
word_of (FlushAll win) = codes "flush_all"
word_of (FlushLocal win target) = codes "flush_local"
word_of (FlushLocalAll win) = codes "flush_local_all"
word_of (Sync win) = codes "sync"
word_of Barrier = codes "barrier"
word_of (Put req win target disp dtype values) = word_by_request req (codes "put") (codes "rput")
word_of (Get req win target disp dtype count) = word_by_request req (codes "get") (codes "rget")
word_of (Acc req win target disp dtype op values) = word_by_request req (codes "acc") (codes "racc")
word_of (GetAcc req win target disp dtype op values) = word_by_request req (codes "getacc") (codes "rgetacc")
word_of (Fop win target disp dtype op value) = codes "fop"
word_of (Cas win target disp dtype compare new) = codes "cas"
word_of (Load win disp dtype count) = codes "load"
word_of (Store win disp dtype values) = codes "store"
word_of (WaitReq req) = codes "waitreq"
word_of (TestReq req) = codes "testreq"
