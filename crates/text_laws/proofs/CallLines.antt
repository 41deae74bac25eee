-- The line of a call is read as the call.
use Rattle.std.proofs.Common.{◌≡◌, ℕ, Bool, true, cond, List, ◌∷◌, Option, Some, None, Ok, Err, Result, ℤ, refl, ap}
use Rattle.std.proofs.Common.{◌∙◌}
use Rattle.std.specs.Prelude.{IfSome}
use Rattle.std.specs.List.{AllByRecursion, flat_map}
use Rattle.rma_types.specs.declared.calls.Call.{Call as MpiCall}
use Rattle.rma_types.specs.declared.calls.Call.TheVariants.{Allocate, Create, Dynamic, Free, Attach, Detach, Fence}
use Rattle.rma_types.specs.declared.calls.Call.TheVariants.{Post, Start, Complete, WaitWin, TestWin, LockOne, Unlock}
use Rattle.rma_types.specs.declared.calls.Call.TheVariants.{LockAll, UnlockAll, Flush, FlushAll, FlushLocal}
use Rattle.rma_types.specs.declared.calls.Call.TheVariants.{FlushLocalAll, Sync, Barrier, Put, Get, Acc, GetAcc, Fop}
use Rattle.rma_types.specs.declared.calls.Call.TheVariants.{Cas, Load, Store, WaitReq, TestReq}
use Rattle.rma_types.specs.Actions.{target_of}
use Rattle.call_rules.specs.WellFormed.{IsNumber, IsWrittenTarget, IsWrittenCall}
use Rattle.script_language.specs.declared.drafts.Draft.{Draft}
use Rattle.script_language.specs.declared.faults.FaultKind.{FaultKind}
use Rattle.script_language.specs.declared.faults.FaultKind.TheVariants.{Word, Shape}
use Rattle.script_language.specs.declared.fields.Fields.{Fields}
use Rattle.script_language.specs.declared.forms.CallForm.TheVariants.{Allocate as AllocateForm, Create as CreateForm}
use Rattle.script_language.specs.declared.forms.CallForm.TheVariants.{Dynamic as DynamicForm, Free as FreeForm}
use Rattle.script_language.specs.declared.forms.CallForm.TheVariants.{Attach as AttachForm, Detach as DetachForm}
use Rattle.script_language.specs.declared.forms.CallForm.TheVariants.{Fence as FenceForm, Post as PostForm}
use Rattle.script_language.specs.declared.forms.CallForm.TheVariants.{Start as StartForm, Complete as CompleteForm}
use Rattle.script_language.specs.declared.forms.CallForm.TheVariants.{WaitWin as WaitWinForm, TestWin as TestWinForm}
use Rattle.script_language.specs.declared.forms.CallForm.TheVariants.{LockOne as LockOneForm, Unlock as UnlockForm}
use Rattle.script_language.specs.declared.forms.CallForm.TheVariants.{LockAll as LockAllForm}
use Rattle.script_language.specs.declared.forms.CallForm.TheVariants.{UnlockAll as UnlockAllForm, Flush as FlushForm}
use Rattle.script_language.specs.declared.forms.CallForm.TheVariants.{FlushAll as FlushAllForm}
use Rattle.script_language.specs.declared.forms.CallForm.TheVariants.{FlushLocal as FlushLocalForm}
use Rattle.script_language.specs.declared.forms.CallForm.TheVariants.{FlushLocalAll as FlushLocalAllForm}
use Rattle.script_language.specs.declared.forms.CallForm.TheVariants.{Sync as SyncForm, Barrier as BarrierForm}
use Rattle.script_language.specs.declared.forms.CallForm.TheVariants.{Put as PutForm, RequestPut, Get as GetForm}
use Rattle.script_language.specs.declared.forms.CallForm.TheVariants.{RequestGet, Acc as AccForm, RequestAcc}
use Rattle.script_language.specs.declared.forms.CallForm.TheVariants.{GetAcc as GetAccForm, RequestGetAcc}
use Rattle.script_language.specs.declared.forms.CallForm.TheVariants.{Fop as FopForm, Cas as CasForm, Load as LoadForm}
use Rattle.script_language.specs.declared.forms.CallForm.TheVariants.{Store as StoreForm, WaitReq as WaitReqForm}
use Rattle.script_language.specs.declared.forms.CallForm.TheVariants.{TestReq as TestReqForm}
use Rattle.script_language.specs.declared.forms.Form.{Form}
use Rattle.script_language.specs.declared.forms.Form.TheVariants.{Ranks, Space, Rank, Repeat, End, Call}
use Rattle.script_language.specs.Answers.{◌>>=◌, found_or}
use Rattle.script_language.specs.Calls.{no_fields, call_of, form_of, fields_of}
use Rattle.script_language.specs.Drafts.{is_in_place, with_line, with_call, draft_within_limits, is_in_block}
use Rattle.script_language.specs.Forms.{word_of_form, places_of, call_places}
use Rattle.script_language.specs.Reading.{form_in_place, rest_read, line_read}
use Rattle.script_language.specs.Spelling.{spelling_of}
use Rattle.script_language.specs.Tokens.{tokens_read}
use Rattle.script_language.specs.Words.{form_named}
use Rattle.text_laws.proofs.Lines.{IsPlain}
use Rattle.text_laws.proofs.Places.{places_said, places_plain}
use Rattle.text_laws.proofs.Tokens.{filled, AreSaid}

target_said : (target : Option ℤ) → IsWrittenTarget (target_of target) → IfSome target IsNumber
target_said None h = tt
target_said (Some rank) h = h

-- what the line of a call says can be read at each of its places
call_said : (call : MpiCall) → IsWrittenCall call → AreSaid no_fields (fields_of call) (call_places (form_of call))
call_said (Allocate win bytes unit) h = (h.name, (h.size, (h.units, tt)))
call_said (Create win base bytes unit) h = (h.name, (h.address, (h.size, (h.units, tt))))
call_said (Dynamic win) h = (h.name, tt)
call_said (Free win) h = (h, tt)
call_said (Attach win base bytes) h = (h.0, (h.1, (h.2, tt)))
call_said (Detach win base) h = (h.0, (h.1, tt))
call_said (Fence win asserts) h = (h.0, ((refl, refl), tt))
call_said (Post win group asserts) h = (h.0, ((refl, refl, refl, h.1), ((refl, refl), tt)))
call_said (Start win group asserts) h = (h.0, ((refl, refl, refl, h.1), ((refl, refl), tt)))
call_said (Complete win) h = (h.0, tt)
call_said (WaitWin win) h = (h.0, tt)
call_said (TestWin win) h = (h.0, tt)
call_said (LockOne win kind target asserts) h = (h.0, (tt, (h.1, ((refl, refl), tt))))
call_said (Unlock win target) h = (h.0, (h.1, tt))
call_said (LockAll win asserts) h = (h.0, ((refl, refl), tt))
call_said (UnlockAll win) h = (h.0, tt)
call_said (Flush win target) h = (h.0, (h.1, tt))
call_said (FlushAll win) h = (h.0, tt)
call_said (FlushLocal win target) h = (h.0, (h.1, tt))
call_said (FlushLocalAll win) h = (h.0, tt)
call_said (Sync win) h = (h.0, tt)
call_said Barrier h = tt
call_said (Put None win target disp dtype values) h =
    (h.name, (target_said target h.rank, (h.place, (tt, ((refl, refl, refl, h.amount, h.patterns), tt)))))
call_said (Put (Some req) win target disp dtype values) h = (
  h.named_request,
  (
    h.name,
    (
      target_said target h.rank,
      (h.place, (tt, ((refl, refl, refl, h.amount, h.patterns), tt))),
    ),
  ),
)
call_said (Get None win target disp dtype count) h =
    (h.name, (target_said target h.rank, (h.place, (tt, (h.elements, tt)))))
call_said (Get (Some req) win target disp dtype count) h =
    (h.named_request, (h.name, (target_said target h.rank, (h.place, (tt, (h.elements, tt))))))
call_said (Acc None win target disp dtype op values) h =
    (h.name, (target_said target h.rank, (h.place, (tt, (tt, ((refl, refl, refl, h.amount, h.patterns), tt))))))
call_said (Acc (Some req) win target disp dtype op values) h = (
  h.named_request,
  (
    h.name,
    (
      target_said target h.rank,
      (h.place, (tt, (tt, ((refl, refl, refl, h.amount, h.patterns), tt)))),
    ),
  ),
)
call_said (GetAcc None win target disp dtype op values) h =
    (h.name, (target_said target h.rank, (h.place, (tt, (tt, ((refl, refl, refl, h.amount, h.patterns), tt))))))
call_said (GetAcc (Some req) win target disp dtype op values) h = (
  h.named_request,
  (
    h.name,
    (
      target_said target h.rank,
      (h.place, (tt, (tt, ((refl, refl, refl, h.amount, h.patterns), tt)))),
    ),
  ),
)
call_said (Fop win target disp dtype op value) h =
    (h.name, (target_said target h.rank, (h.place, (tt, (tt, ((refl, h.patterns.0), tt))))))
call_said (Cas win target disp dtype compare new) h =
    (h.name, (target_said target h.rank, (h.place, (tt, ((refl, h.compared), ((refl, h.patterns.0), tt))))))
call_said (Load win disp dtype count) h = (h.name, (h.place, (tt, (h.elements, tt))))
call_said (Store win disp dtype values) h = (h.name, (h.place, (tt, ((refl, refl, refl, h.amount, h.patterns), tt))))
call_said (WaitReq req) h = (h, tt)
call_said (TestReq req) h = (h, tt)

-- what is read is the call
call_back : (call : MpiCall) → call_of (form_of call) (filled no_fields (fields_of call) (call_places (form_of call))) ≡
    call
call_back (Allocate win bytes unit) = refl
call_back (Create win base bytes unit) = refl
call_back (Dynamic win) = refl
call_back (Free win) = refl
call_back (Attach win base bytes) = refl
call_back (Detach win base) = refl
call_back (Fence win asserts) = refl
call_back (Post win group asserts) = refl
call_back (Start win group asserts) = refl
call_back (Complete win) = refl
call_back (WaitWin win) = refl
call_back (TestWin win) = refl
call_back (LockOne win kind target asserts) = refl
call_back (Unlock win target) = refl
call_back (LockAll win asserts) = refl
call_back (UnlockAll win) = refl
call_back (Flush win target) = refl
call_back (FlushAll win) = refl
call_back (FlushLocal win target) = refl
call_back (FlushLocalAll win) = refl
call_back (Sync win) = refl
call_back Barrier = refl
call_back (Put None win target disp dtype values) = refl
call_back (Put (Some req) win target disp dtype values) = refl
call_back (Get None win target disp dtype count) = refl
call_back (Get (Some req) win target disp dtype count) = refl
call_back (Acc None win target disp dtype op values) = refl
call_back (Acc (Some req) win target disp dtype op values) = refl
call_back (GetAcc None win target disp dtype op values) = refl
call_back (GetAcc (Some req) win target disp dtype op values) = refl
call_back (Fop win target disp dtype op value) = refl
call_back (Cas win target disp dtype compare new) = refl
call_back (Load win disp dtype count) = refl
call_back (Store win disp dtype values) = refl
call_back (WaitReq req) = refl
call_back (TestReq req) = refl

word_back : (form : Form) → form_named (word_of_form form) ≡ Some form
word_back Ranks = refl
word_back Space = refl
word_back Rank = refl
word_back Repeat = refl
word_back End = refl
word_back (Call AllocateForm) = refl
word_back (Call CreateForm) = refl
word_back (Call DynamicForm) = refl
word_back (Call FreeForm) = refl
word_back (Call AttachForm) = refl
word_back (Call DetachForm) = refl
word_back (Call FenceForm) = refl
word_back (Call PostForm) = refl
word_back (Call StartForm) = refl
word_back (Call CompleteForm) = refl
word_back (Call WaitWinForm) = refl
word_back (Call TestWinForm) = refl
word_back (Call LockOneForm) = refl
word_back (Call UnlockForm) = refl
word_back (Call LockAllForm) = refl
word_back (Call UnlockAllForm) = refl
word_back (Call FlushForm) = refl
word_back (Call FlushAllForm) = refl
word_back (Call FlushLocalForm) = refl
word_back (Call FlushLocalAllForm) = refl
word_back (Call SyncForm) = refl
word_back (Call BarrierForm) = refl
word_back (Call PutForm) = refl
word_back (Call RequestPut) = refl
word_back (Call GetForm) = refl
word_back (Call RequestGet) = refl
word_back (Call AccForm) = refl
word_back (Call RequestAcc) = refl
word_back (Call GetAccForm) = refl
word_back (Call RequestGetAcc) = refl
word_back (Call FopForm) = refl
word_back (Call CasForm) = refl
word_back (Call LoadForm) = refl
word_back (Call StoreForm) = refl
word_back (Call WaitReqForm) = refl
word_back (Call TestReqForm) = refl

pub word_plain : (form : Form) → IsPlain (word_of_form form)
word_plain Ranks = record { some = refl; bytes = refl }
word_plain Space = record { some = refl; bytes = refl }
word_plain Rank = record { some = refl; bytes = refl }
word_plain Repeat = record { some = refl; bytes = refl }
word_plain End = record { some = refl; bytes = refl }
word_plain (Call AllocateForm) = record { some = refl; bytes = refl }
word_plain (Call CreateForm) = record { some = refl; bytes = refl }
word_plain (Call DynamicForm) = record { some = refl; bytes = refl }
word_plain (Call FreeForm) = record { some = refl; bytes = refl }
word_plain (Call AttachForm) = record { some = refl; bytes = refl }
word_plain (Call DetachForm) = record { some = refl; bytes = refl }
word_plain (Call FenceForm) = record { some = refl; bytes = refl }
word_plain (Call PostForm) = record { some = refl; bytes = refl }
word_plain (Call StartForm) = record { some = refl; bytes = refl }
word_plain (Call CompleteForm) = record { some = refl; bytes = refl }
word_plain (Call WaitWinForm) = record { some = refl; bytes = refl }
word_plain (Call TestWinForm) = record { some = refl; bytes = refl }
word_plain (Call LockOneForm) = record { some = refl; bytes = refl }
word_plain (Call UnlockForm) = record { some = refl; bytes = refl }
word_plain (Call LockAllForm) = record { some = refl; bytes = refl }
word_plain (Call UnlockAllForm) = record { some = refl; bytes = refl }
word_plain (Call FlushForm) = record { some = refl; bytes = refl }
word_plain (Call FlushAllForm) = record { some = refl; bytes = refl }
word_plain (Call FlushLocalForm) = record { some = refl; bytes = refl }
word_plain (Call FlushLocalAllForm) = record { some = refl; bytes = refl }
word_plain (Call SyncForm) = record { some = refl; bytes = refl }
word_plain (Call BarrierForm) = record { some = refl; bytes = refl }
word_plain (Call PutForm) = record { some = refl; bytes = refl }
word_plain (Call RequestPut) = record { some = refl; bytes = refl }
word_plain (Call GetForm) = record { some = refl; bytes = refl }
word_plain (Call RequestGet) = record { some = refl; bytes = refl }
word_plain (Call AccForm) = record { some = refl; bytes = refl }
word_plain (Call RequestAcc) = record { some = refl; bytes = refl }
word_plain (Call GetAccForm) = record { some = refl; bytes = refl }
word_plain (Call RequestGetAcc) = record { some = refl; bytes = refl }
word_plain (Call FopForm) = record { some = refl; bytes = refl }
word_plain (Call CasForm) = record { some = refl; bytes = refl }
word_plain (Call LoadForm) = record { some = refl; bytes = refl }
word_plain (Call StoreForm) = record { some = refl; bytes = refl }
word_plain (Call WaitReqForm) = record { some = refl; bytes = refl }
word_plain (Call TestReqForm) = record { some = refl; bytes = refl }

-- a line where it may stand, whose tokens can be read
pub line_said : (draft : Draft) (form : Form) (fields told : Fields) → is_in_place draft form ≡ true →
    tokens_read draft no_fields (places_of form) (flat_map (spelling_of fields) (places_of form)) ≡ Ok told →
    line_read draft (word_of_form form ∷ flat_map (spelling_of fields) (places_of form)) ≡ draft_within_limits
    (with_line draft form told)
line_said draft form fields told stands reads =
    let tokens = flat_map (spelling_of fields) (places_of form) in
    ap (λ (o : Option Form). (found_or Word o >>= form_in_place draft) >>= rest_read draft tokens) (word_back form)
    ∙ ap (λ (b : Bool). cond b (Ok form) (Err Shape) >>= rest_read draft tokens) stands
    ∙ ap (λ (r : Result Fields FaultKind). r >>= λ (f : Fields). draft_within_limits (with_line draft form f)) reads

-- the tokens of a call's line
abbrev pub call_tokens : MpiCall → List (List ℕ)
call_tokens call = word_of_form (Call (form_of call))
    ∷ flat_map (spelling_of (fields_of call)) (call_places (form_of call))

-- the line of a call, in a block
pub call_line_said : (draft : Draft) (call : MpiCall) → IsWrittenCall call → is_in_block draft ≡ true →
    line_read draft (call_tokens call) ≡ draft_within_limits (with_call draft call)
call_line_said draft call written begun =
    line_said draft (Call (form_of call)) (fields_of call)
    (filled no_fields (fields_of call) (call_places (form_of call))) begun
    (places_said draft no_fields (fields_of call) (call_places (form_of call)) (call_said call written))
    ∙ ap (λ (said : MpiCall). draft_within_limits (with_call draft said)) (call_back call)

pub call_tokens_plain : (call : MpiCall) → IsWrittenCall call → AllByRecursion IsPlain (call_tokens call)
call_tokens_plain call written = (
  word_plain (Call (form_of call)),
  places_plain no_fields (fields_of call)
      (call_places (form_of call)) (call_said call written),
)
