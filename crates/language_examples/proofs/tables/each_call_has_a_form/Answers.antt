-- Case by case, each is computed.
use Rattle.std.proofs.Common.{refl}
use Rattle.std.specs.Prelude.{Some, None}
use Rattle.rma_types.specs.declared.calls.Call.TheVariants.{Allocate, Create, Dynamic, Free, Attach, Detach, Fence}
use Rattle.rma_types.specs.declared.calls.Call.TheVariants.{Post, Start, Complete, WaitWin, TestWin, LockOne, Unlock}
use Rattle.rma_types.specs.declared.calls.Call.TheVariants.{LockAll, UnlockAll, Flush, FlushAll, FlushLocal}
use Rattle.rma_types.specs.declared.calls.Call.TheVariants.{FlushLocalAll, Sync, Barrier, Put, Get, Acc, GetAcc, Fop}
use Rattle.rma_types.specs.declared.calls.Call.TheVariants.{Cas, Load, Store, WaitReq, TestReq}
use Rattle.language_examples.specs.Tables.{CallsAreSaid, CallsHaveTheirWords}
use Rattle.language_examples.proofs.tables.each_call_has_a_form.Goals as goal

said : CallsAreSaid
said (Allocate win bytes unit) = refl
said (Create win base bytes unit) = refl
said (Dynamic win) = refl
said (Free win) = refl
said (Attach win base bytes) = refl
said (Detach win base) = refl
said (Fence win asserts) = refl
said (Post win group asserts) = refl
said (Start win group asserts) = refl
said (Complete win) = refl
said (WaitWin win) = refl
said (TestWin win) = refl
said (LockOne win lock peer asserts) = refl
said (Unlock win peer) = refl
said (LockAll win asserts) = refl
said (UnlockAll win) = refl
said (Flush win peer) = refl
said (FlushAll win) = refl
said (FlushLocal win peer) = refl
said (FlushLocalAll win) = refl
said (Sync win) = refl
said Barrier = refl
said (Put None win target disp dtype values) = refl
said (Put (Some req) win target disp dtype values) = refl
said (Get None win target disp dtype count) = refl
said (Get (Some req) win target disp dtype count) = refl
said (Acc None win target disp dtype op values) = refl
said (Acc (Some req) win target disp dtype op values) = refl
said (GetAcc None win target disp dtype op values) = refl
said (GetAcc (Some req) win target disp dtype op values) = refl
said (Fop win target disp dtype op value) = refl
said (Cas win target disp dtype compare value) = refl
said (Load win disp dtype count) = refl
said (Store win disp dtype values) = refl
said (WaitReq req) = refl
said (TestReq req) = refl

words : CallsHaveTheirWords
words (Allocate win bytes unit) = refl
words (Create win base bytes unit) = refl
words (Dynamic win) = refl
words (Free win) = refl
words (Attach win base bytes) = refl
words (Detach win base) = refl
words (Fence win asserts) = refl
words (Post win group asserts) = refl
words (Start win group asserts) = refl
words (Complete win) = refl
words (WaitWin win) = refl
words (TestWin win) = refl
words (LockOne win lock peer asserts) = refl
words (Unlock win peer) = refl
words (LockAll win asserts) = refl
words (UnlockAll win) = refl
words (Flush win peer) = refl
words (FlushAll win) = refl
words (FlushLocal win peer) = refl
words (FlushLocalAll win) = refl
words (Sync win) = refl
words Barrier = refl
words (Put None win target disp dtype values) = refl
words (Put (Some req) win target disp dtype values) = refl
words (Get None win target disp dtype count) = refl
words (Get (Some req) win target disp dtype count) = refl
words (Acc None win target disp dtype op values) = refl
words (Acc (Some req) win target disp dtype op values) = refl
words (GetAcc None win target disp dtype op values) = refl
words (GetAcc (Some req) win target disp dtype op values) = refl
words (Fop win target disp dtype op value) = refl
words (Cas win target disp dtype compare value) = refl
words (Load win disp dtype count) = refl
words (Store win disp dtype values) = refl
words (WaitReq req) = refl
words (TestReq req) = refl

pub returns : goal.returns
returns c = record { said = said; words = words }
