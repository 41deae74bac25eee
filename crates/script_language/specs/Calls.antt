-- The call that a line says, and the line of a call.
use Rattle.std.specs.Prelude.{ℕ, false, pos, [], Option, Some, None, unwrap_or}
use Rattle.rma_types.specs.declared.calls.Asserts.{Asserts}
use Rattle.rma_types.specs.declared.calls.Call.{Call}
use Rattle.rma_types.specs.declared.calls.Call.TheVariants.{Allocate, Create, Dynamic, Free, Attach, Detach, Fence}
use Rattle.rma_types.specs.declared.calls.Call.TheVariants.{Post, Start, Complete, WaitWin, TestWin, LockOne, Unlock}
use Rattle.rma_types.specs.declared.calls.Call.TheVariants.{LockAll, UnlockAll, Flush, FlushAll, FlushLocal}
use Rattle.rma_types.specs.declared.calls.Call.TheVariants.{FlushLocalAll, Sync, Barrier, Put, Get, Acc, GetAcc, Fop}
use Rattle.rma_types.specs.declared.calls.Call.TheVariants.{Cas, Load, Store, WaitReq, TestReq}
use Rattle.rma_types.specs.declared.calls.Lock.TheVariants.{Shared}
use Rattle.rma_types.specs.declared.dtypes.Dtype.TheVariants.{Int8}
use Rattle.rma_types.specs.declared.ops.Op.TheVariants.{Replace}
use Rattle.script_language.specs.declared.fields.Fields.{Fields}
use Rattle.script_language.specs.declared.forms.CallForm.{CallForm}
use Rattle.script_language.specs.declared.forms.CallForm.TheVariants.{Allocate as AllocateForm, Create as CreateForm}
use Rattle.script_language.specs.declared.forms.CallForm.TheVariants.{Dynamic as DynamicForm, Free as FreeForm}
use Rattle.script_language.specs.declared.forms.CallForm.TheVariants.{Attach as AttachForm, Detach as DetachForm}
use Rattle.script_language.specs.declared.forms.CallForm.TheVariants.{Fence as FenceForm, Post as PostForm}
use Rattle.script_language.specs.declared.forms.CallForm.TheVariants.{Start as StartForm, Complete as CompleteForm}
use Rattle.script_language.specs.declared.forms.CallForm.TheVariants.{WaitWin as WaitWinForm, TestWin as TestWinForm}
use Rattle.script_language.specs.declared.forms.CallForm.TheVariants.{LockOne as LockOneForm, Unlock as UnlockForm}
use Rattle.script_language.specs.declared.forms.CallForm.TheVariants.{LockAll as LockAllForm}
use Rattle.script_language.specs.declared.forms.CallForm.TheVariants.{UnlockAll as UnlockAllForm, Flush as FlushForm}
use Rattle.script_language.specs.declared.forms.CallForm.TheVariants.{FlushAll as FlushAllForm}
use Rattle.script_language.specs.declared.forms.CallForm.TheVariants.{FlushLocal as FlushLocalForm}
use Rattle.script_language.specs.declared.forms.CallForm.TheVariants.{FlushLocalAll as FlushLocalAllForm}
use Rattle.script_language.specs.declared.forms.CallForm.TheVariants.{Sync as SyncForm, Barrier as BarrierForm}
use Rattle.script_language.specs.declared.forms.CallForm.TheVariants.{Put as PutForm, RequestPut, Get as GetForm}
use Rattle.script_language.specs.declared.forms.CallForm.TheVariants.{RequestGet, Acc as AccForm, RequestAcc}
use Rattle.script_language.specs.declared.forms.CallForm.TheVariants.{GetAcc as GetAccForm, RequestGetAcc}
use Rattle.script_language.specs.declared.forms.CallForm.TheVariants.{Fop as FopForm, Cas as CasForm, Load as LoadForm}
use Rattle.script_language.specs.declared.forms.CallForm.TheVariants.{Store as StoreForm, WaitReq as WaitReqForm}
use Rattle.script_language.specs.declared.forms.CallForm.TheVariants.{TestReq as TestReqForm}

abbrev pub no_asserts : Asserts
no_asserts = record { nocheck = false; nostore = false; noput = false; noprecede = false; nosucceed = false }

-- a line that says nothing
abbrev pub no_fields : Fields
no_fields = record {
  ranks = 0;
  owner = 0;
  room = 0;
  members = [];
  times = 0;
  req = 0;
  win = 0;
  base = pos 0;
  bytes = pos 0;
  unit = pos 0;
  lock = Shared;
  peer = pos 0;
  group = [];
  asserts = no_asserts;
  target = None;
  disp = pos 0;
  dtype = Int8;
  op = Replace;
  count = pos 0;
  compare = 0;
  value = 0;
  values = [];
}

-- the call that a line of a form says
abbrev pub call_of : CallForm → Fields → Call
call_of AllocateForm fields = Allocate fields.win fields.bytes fields.unit
call_of CreateForm fields = Create fields.win fields.base fields.bytes fields.unit
call_of DynamicForm fields = Dynamic fields.win
call_of FreeForm fields = Free fields.win
call_of AttachForm fields = Attach fields.win fields.base fields.bytes
call_of DetachForm fields = Detach fields.win fields.base
call_of FenceForm fields = Fence fields.win fields.asserts
call_of PostForm fields = Post fields.win fields.group fields.asserts
call_of StartForm fields = Start fields.win fields.group fields.asserts
call_of CompleteForm fields = Complete fields.win
call_of WaitWinForm fields = WaitWin fields.win
call_of TestWinForm fields = TestWin fields.win
call_of LockOneForm fields = LockOne fields.win fields.lock fields.peer fields.asserts
call_of UnlockForm fields = Unlock fields.win fields.peer
call_of LockAllForm fields = LockAll fields.win fields.asserts
call_of UnlockAllForm fields = UnlockAll fields.win
call_of FlushForm fields = Flush fields.win fields.peer
call_of FlushAllForm fields = FlushAll fields.win
call_of FlushLocalForm fields = FlushLocal fields.win fields.peer
call_of FlushLocalAllForm fields = FlushLocalAll fields.win
call_of SyncForm fields = Sync fields.win
call_of BarrierForm fields = Barrier
call_of PutForm fields = Put None fields.win fields.target fields.disp fields.dtype fields.values
call_of RequestPut fields = Put (Some fields.req) fields.win fields.target fields.disp fields.dtype fields.values
call_of GetForm fields = Get None fields.win fields.target fields.disp fields.dtype fields.count
call_of RequestGet fields = Get (Some fields.req) fields.win fields.target fields.disp fields.dtype fields.count
call_of AccForm fields = Acc None fields.win fields.target fields.disp fields.dtype fields.op fields.values
call_of RequestAcc fields = Acc (Some fields.req) fields.win fields.target fields.disp fields.dtype fields.op
    fields.values
call_of GetAccForm fields = GetAcc None fields.win fields.target fields.disp fields.dtype fields.op fields.values
call_of RequestGetAcc fields = GetAcc (Some fields.req) fields.win fields.target fields.disp fields.dtype fields.op
    fields.values
call_of FopForm fields = Fop fields.win fields.target fields.disp fields.dtype fields.op fields.value
call_of CasForm fields = Cas fields.win fields.target fields.disp fields.dtype fields.compare fields.value
call_of LoadForm fields = Load fields.win fields.disp fields.dtype fields.count
call_of StoreForm fields = Store fields.win fields.disp fields.dtype fields.values
call_of WaitReqForm fields = WaitReq fields.req
call_of TestReqForm fields = TestReq fields.req

-- the plain form, or the form that makes a request
abbrev pub form_by_request : Option ℕ → CallForm → CallForm → CallForm
form_by_request None plain request = plain
form_by_request (Some name) plain request = request

-- the form of a call's line
abbrev pub form_of : Call → CallForm
form_of (Allocate win bytes unit) = AllocateForm
form_of (Create win base bytes unit) = CreateForm
form_of (Dynamic win) = DynamicForm
form_of (Free win) = FreeForm
form_of (Attach win base bytes) = AttachForm
form_of (Detach win base) = DetachForm
form_of (Fence win asserts) = FenceForm
form_of (Post win group asserts) = PostForm
form_of (Start win group asserts) = StartForm
form_of (Complete win) = CompleteForm
form_of (WaitWin win) = WaitWinForm
form_of (TestWin win) = TestWinForm
form_of (LockOne win lock peer asserts) = LockOneForm
form_of (Unlock win peer) = UnlockForm
form_of (LockAll win asserts) = LockAllForm
form_of (UnlockAll win) = UnlockAllForm
form_of (Flush win peer) = FlushForm
form_of (FlushAll win) = FlushAllForm
form_of (FlushLocal win peer) = FlushLocalForm
form_of (FlushLocalAll win) = FlushLocalAllForm
form_of (Sync win) = SyncForm
form_of Barrier = BarrierForm
form_of (Put req win target disp dtype values) = form_by_request req PutForm RequestPut
form_of (Get req win target disp dtype count) = form_by_request req GetForm RequestGet
form_of (Acc req win target disp dtype op values) = form_by_request req AccForm RequestAcc
form_of (GetAcc req win target disp dtype op values) = form_by_request req GetAccForm RequestGetAcc
form_of (Fop win target disp dtype op value) = FopForm
form_of (Cas win target disp dtype compare value) = CasForm
form_of (Load win disp dtype count) = LoadForm
form_of (Store win disp dtype values) = StoreForm
form_of (WaitReq req) = WaitReqForm
form_of (TestReq req) = TestReqForm

-- what a call's line says
abbrev pub fields_of : Call → Fields
fields_of (Allocate win bytes unit) = record no_fields { win = win; bytes = bytes; unit = unit }
fields_of (Create win base bytes unit) = record no_fields { win = win; base = base; bytes = bytes; unit = unit }
fields_of (Dynamic win) = record no_fields { win = win }
fields_of (Free win) = record no_fields { win = win }
fields_of (Attach win base bytes) = record no_fields { win = win; base = base; bytes = bytes }
fields_of (Detach win base) = record no_fields { win = win; base = base }
fields_of (Fence win asserts) = record no_fields { win = win; asserts = asserts }
fields_of (Post win group asserts) = record no_fields { win = win; group = group; asserts = asserts }
fields_of (Start win group asserts) = record no_fields { win = win; group = group; asserts = asserts }
fields_of (Complete win) = record no_fields { win = win }
fields_of (WaitWin win) = record no_fields { win = win }
fields_of (TestWin win) = record no_fields { win = win }
fields_of (LockOne win lock peer asserts) = record no_fields { win = win; lock = lock; peer = peer; asserts = asserts }
fields_of (Unlock win peer) = record no_fields { win = win; peer = peer }
fields_of (LockAll win asserts) = record no_fields { win = win; asserts = asserts }
fields_of (UnlockAll win) = record no_fields { win = win }
fields_of (Flush win peer) = record no_fields { win = win; peer = peer }
fields_of (FlushAll win) = record no_fields { win = win }
fields_of (FlushLocal win peer) = record no_fields { win = win; peer = peer }
fields_of (FlushLocalAll win) = record no_fields { win = win }
fields_of (Sync win) = record no_fields { win = win }
fields_of Barrier = no_fields
fields_of (Put req win target disp dtype values) = record no_fields
    { req = unwrap_or req 0; win = win; target = target; disp = disp; dtype = dtype; values = values }
fields_of (Get req win target disp dtype count) = record no_fields
    { req = unwrap_or req 0; win = win; target = target; disp = disp; dtype = dtype; count = count }
fields_of (Acc req win target disp dtype op values) = record no_fields
    { req = unwrap_or req 0; win = win; target = target; disp = disp; dtype = dtype; op = op; values = values }
fields_of (GetAcc req win target disp dtype op values) = record no_fields
    { req = unwrap_or req 0; win = win; target = target; disp = disp; dtype = dtype; op = op; values = values }
fields_of (Fop win target disp dtype op value) = record no_fields
    { win = win; target = target; disp = disp; dtype = dtype; op = op; value = value }
fields_of (Cas win target disp dtype compare value) = record no_fields
    { win = win; target = target; disp = disp; dtype = dtype; compare = compare; value = value }
fields_of (Load win disp dtype count) = record no_fields { win = win; disp = disp; dtype = dtype; count = count }
fields_of (Store win disp dtype values) = record no_fields { win = win; disp = disp; dtype = dtype; values = values }
fields_of (WaitReq req) = record no_fields { req = req }
fields_of (TestReq req) = record no_fields { req = req }
