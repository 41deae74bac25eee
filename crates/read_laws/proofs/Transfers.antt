-- What the transfer of a call tells of the access that it makes.
use Rattle.std.proofs.Common.{◌≡◌, true, false, cond, Option, Some, None, refl, ap, sym, subst}
use Rattle.rma_types.specs.declared.accesses.Kind.TheVariants.{Acc as AccKind}
use Rattle.rma_types.specs.declared.calls.Call.{Call}
use Rattle.rma_types.specs.declared.calls.Call.TheVariants.{Allocate, Create, Dynamic, Free, Attach, Detach, Fence}
use Rattle.rma_types.specs.declared.calls.Call.TheVariants.{Post, Start, Complete, WaitWin, TestWin, LockOne, Unlock}
use Rattle.rma_types.specs.declared.calls.Call.TheVariants.{LockAll, UnlockAll, Flush, FlushAll, FlushLocal}
use Rattle.rma_types.specs.declared.calls.Call.TheVariants.{FlushLocalAll, Sync, Barrier, Put, Get, Acc, GetAcc, Fop}
use Rattle.rma_types.specs.declared.calls.Call.TheVariants.{Cas, Load, Store, WaitReq, TestReq}
use Rattle.rma_types.specs.declared.dtypes.Dtype.{Dtype}
use Rattle.rma_types.specs.declared.ops.Op.{Op}
use Rattle.rma_types.specs.declared.actions.Transfer.{Transfer}
use Rattle.rma_types.specs.declared.actions.Target.TheVariants.{Own}
use Rattle.rma_types.specs.Actions.{transfer_of}
use Rattle.call_rules.specs.Transfers.{is_no_op}
use Rattle.lawful_runs.specs.TouchLaw.{is_local}
use Rattle.order_rules.specs.OrderedReads.{is_get_or_load}
use Rattle.order_rules.specs.Roles.{RmaUpdate, RmaRead, role_of}
use Rattle.order_rules.specs.Rules.{accumulation_of}
use Rattle.order_laws.specs.FindingLaws.{is_update}

-- what holds of each transfer that a call makes
pub record IsOfCall (t : Transfer) : Type 0 where
  pub updates : is_no_op t.op ≡ false → is_update (role_of t.kind) ≡ true
  pub dtype_is : (dtype : Dtype) (op : Option Op) → accumulation_of t.kind ≡ Some (dtype, op) → dtype ≡ t.dtype
  pub reads : is_get_or_load t.kind ≡ true → (t.fetches ≡ true) × (is_no_op t.op ≡ true)
  pub local : is_local t.kind ≡ true → t.target ≡ Own

of_call : (t other : Transfer) → IsOfCall t → Some t ≡ Some other → IsOfCall other
of_call t other is e = let same : t ≡ other = cc e in subst IsOfCall same is

accumulates : (op : Op) (dtype : Dtype) → is_no_op op ≡ false → is_update (role_of (AccKind op dtype)) ≡ true
accumulates op dtype e = ap (λ b. is_update (cond b RmaRead RmaUpdate)) e

first_of : {X Y : Type 0} (a c : X) (b d : Y) → ◌≡◌ {A = Option (X × Y)} (Some (a, b)) (Some (c, d)) → c ≡ a
first_of a c b d e = sym (by_pair e)
  where
    by_pair : {X Y : Type 0} {a c : X} {b d : Y} → ◌≡◌ {A = Option (X × Y)} (Some (a, b)) (Some (c, d)) → a ≡ c
    by_pair {X} {Y} {a} {c} {b} {d} e = ap (λ (o : Option (X × Y)). from o) e
      where
        from : Option (X × Y) → X
        from None = a
        from (Some p) = p.0

pub call_facts : (call : Call) (t : Transfer) → transfer_of call ≡ Some t → IsOfCall t
call_facts (Allocate win bytes unit) t e = absurd (cc e)
call_facts (Create win base bytes unit) t e = absurd (cc e)
call_facts (Dynamic win) t e = absurd (cc e)
call_facts (Free win) t e = absurd (cc e)
call_facts (Attach win base bytes) t e = absurd (cc e)
call_facts (Detach win base) t e = absurd (cc e)
call_facts (Fence win asserts) t e = absurd (cc e)
call_facts (Post win group asserts) t e = absurd (cc e)
call_facts (Start win group asserts) t e = absurd (cc e)
call_facts (Complete win) t e = absurd (cc e)
call_facts (WaitWin win) t e = absurd (cc e)
call_facts (TestWin win) t e = absurd (cc e)
call_facts (LockOne win kind target asserts) t e = absurd (cc e)
call_facts (Unlock win target) t e = absurd (cc e)
call_facts (LockAll win asserts) t e = absurd (cc e)
call_facts (UnlockAll win) t e = absurd (cc e)
call_facts (Flush win target) t e = absurd (cc e)
call_facts (FlushAll win) t e = absurd (cc e)
call_facts (FlushLocal win target) t e = absurd (cc e)
call_facts (FlushLocalAll win) t e = absurd (cc e)
call_facts (Sync win) t e = absurd (cc e)
call_facts Barrier t e = absurd (cc e)
call_facts (Put req win target disp dtype values) t e = of_call _ t (record {
  updates = λ h. refl;
  dtype_is = λ d op h. absurd (cc h);
  reads = λ h. absurd (cc h);
  local = λ h. absurd (cc h);
}) e
call_facts (Get req win target disp dtype count) t e = of_call _ t (record {
  updates = λ h. absurd (cc h);
  dtype_is = λ d op h. absurd (cc h);
  reads = λ h. (refl, refl);
  local = λ h. absurd (cc h);
}) e
call_facts (Acc req win target disp dtype op values) t e = of_call _ t (record {
  updates = λ h. accumulates op dtype h;
  dtype_is = λ d o h. first_of dtype d (Some op) o h;
  reads = λ h. absurd (cc h);
  local = λ h. absurd (cc h);
}) e
call_facts (GetAcc req win target disp dtype op values) t e = of_call _ t (record {
  updates = λ h. accumulates op dtype h;
  dtype_is = λ d o h. first_of dtype d (Some op) o h;
  reads = λ h. absurd (cc h);
  local = λ h. absurd (cc h);
}) e
call_facts (Fop win target disp dtype op value) t e = of_call _ t (record {
  updates = λ h. accumulates op dtype h;
  dtype_is = λ d o h. first_of dtype d (Some op) o h;
  reads = λ h. absurd (cc h);
  local = λ h. absurd (cc h);
}) e
call_facts (Cas win target disp dtype compare new) t e = of_call _ t (record {
  updates = λ h. refl;
  dtype_is = λ d o h. first_of dtype d None o h;
  reads = λ h. absurd (cc h);
  local = λ h. absurd (cc h);
}) e
call_facts (Load win disp dtype count) t e = of_call _ t (record {
  updates = λ h. absurd (cc h);
  dtype_is = λ d op h. absurd (cc h);
  reads = λ h. (refl, refl);
  local = λ h. refl;
}) e
call_facts (Store win disp dtype values) t e = of_call _ t (record {
  updates = λ h. refl;
  dtype_is = λ d op h. absurd (cc h);
  reads = λ h. absurd (cc h);
  local = λ h. refl;
}) e
call_facts (WaitReq req) t e = absurd (cc e)
call_facts (TestReq req) t e = absurd (cc e)
