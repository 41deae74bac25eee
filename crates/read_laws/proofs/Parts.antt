-- The access, the element and the change of a touch.
use Rattle.std.proofs.Common.{◌≡◌, ℕ, ◌+◌, Bool, true, false, cond, List, [], length, Option, Some, None, refl, ap, sym}
use Rattle.std.proofs.Common.{◌∙◌, subst, arith}
use Rattle.std.specs.Prelude.{slice_get, slice_index, IfSome, IsSome}
use Rattle.std.specs.Option.{option_map_or}
use Rattle.std.proofs.lemmas.Option.{slice_get_within}
use Rattle.list_laws.proofs.Members.{each_in, In, in_map}
use Rattle.rma_types.specs.declared.calls.Call.{Call}
use Rattle.rma_types.specs.declared.schedules.Delay.{Delay}
use Rattle.rma_types.specs.declared.scripts.Script.{Script}
use Rattle.rma_record.specs.declared.items.Item.{Item}
use Rattle.rma_record.specs.declared.items.Item.TheVariants.{Touch}
use Rattle.rma_record.specs.declared.runs.Run.{Run}
use Rattle.call_rules.specs.declared.elements.Change.{Change}
use Rattle.call_rules.specs.declared.elements.Piece.{Piece}
use Rattle.rma_types.specs.declared.actions.Transfer.{Transfer}
use Rattle.rma_types.specs.declared.actions.Target.TheVariants.{Own}
use Rattle.call_rules.specs.Layout.{layout}
use Rattle.call_rules.specs.Pieces.{numbers_from, pieces}
use Rattle.call_rules.specs.Transfers.{is_no_op, change_of}
use Rattle.call_rules.proofs.NumbersFrom.{in_numbers}
use Rattle.lawful_runs.specs.Accesses.{Touching, transfer_at, change_made, issued_by, issued_at}
use Rattle.lawful_runs.specs.LawfulRun.{IsLawful, rank_in}
use Rattle.lawful_runs.specs.Logs.{log_of, calls_of}
use Rattle.lawful_runs.specs.TouchLaw.{touched_by, elements_from, issued_in, IsTouchedWhole, HasItsIssue}
use Rattle.lawful_runs.specs.TouchLaw.{HasIssueBefore}
use Rattle.rank_rules.specs.declared.pending.PendingAccess.{PendingAccess}
use Rattle.order_rules.specs.CallSteps.{IssuedAccess, issued_access, accesses_of, accesses_in}
use Rattle.read_laws.proofs.Steps.{IsAccess, IsTouchBy, touch_logged}
use Rattle.read_laws.proofs.Touches.{IsTouch, in_flat_map, in_issued, issued_is, touch_among, element_is}
use Rattle.read_laws.proofs.Transfers.{IsOfCall}
use Rattle.read_laws.proofs.Waits.{issued_among}
use Rattle.step_laws.specs.Inside.{LiesInMemory}

-- what the call of an access tells of it: its transfer, its kind and its target; and it lies in its target's memory
pub record IsOfTransfer (script : Script) (a : IssuedAccess) (t : Transfer) : Type 0 where
  pub moves : transfer_at (calls_of script a.id.rank) a.issued.number ≡ Some t
  pub facts : IsOfCall t
  pub kind : a.issued.access.kind ≡ t.kind
  pub fetches : a.issued.fetches ≡ t.fetches
  pub own : t.target ≡ Own → a.issued.access.target ≡ a.id.rank
  pub lies : LiesInMemory (layout script) a.issued.access t.dtype

-- each access of a run is of a transfer, and lies in memory
abbrev pub AreOfTransfers : Script → Run → Type 0
AreOfTransfers script run = (a : IssuedAccess) → In a (accesses_in script run) →
    (t : Transfer) × IsOfTransfer script a t

-- ---- the access of a touch

is_some_and : {X : Type 0} (o : Option X) → IsSome o → (x : X) × (o ≡ Some x)
is_some_and None h = absurd (cc h)
is_some_and (Some x) h = (x, refl)

item_of : (calls : List Call) (log : List Item) (index : ℕ) (one : PendingAccess) (o : Option Item) →
    slice_get log index ≡ o →
    option_map_or (issued_by calls index) o None ≡ Some one →
    (item : Item) × (slice_get log index ≡ Some item) × (issued_by calls index item ≡ Some one)
item_of calls log index one None e h = absurd (cc h)
item_of calls log index one (Some item) e h = (item, e, h)

-- a touch is one of an access of the run
pub record HasAccess (script : Script) (run : Run) (x : Touching) : Type 0 where
  pub access : IssuedAccess
  pub listed : In access (accesses_in script run)
  pub by : IsTouchBy script run access x

pub access_of_touch : (script : Script) (delay : Delay) (run : Run) → IsLawful script delay run → (x : Touching) →
    IsTouch script run x →
    HasAccess script run x
access_of_touch script delay run lawful x touch =
    let rank = x.id.rank in
    let log = log_of run rank in
    let calls = calls_of script rank in
    let here = rank_in script delay run rank in
    let law = each_in (HasItsIssue here log) (numbers_from 0 (length log)) (lawful.logs rank touch.within).issues
    (in_numbers 0 (length log) x.id.index (omega arith)
    (omega (arith, slice_get_within log x.id.index _ touch.item.logged))) in
    let is : HasIssueBefore here log x.id.index (Touch x.issue x.element x.cell x.place x.bits) =
    subst (λ o. IfSome o (HasIssueBefore here log x.id.index)) touch.item.logged law in
    let one = is_some_and (issued_at calls log x.issue) is.1 in
    let item = item_of calls log x.issue one.0 (slice_get log x.issue) refl one.1 in
    let issued = issued_is calls x.issue item.0 one.0 item.2 in
    let zero_plus : x.issue ≡ 0 + x.issue = omega arith in
    record {
      access = issued_access script run rank one.0;
      listed = in_flat_map (accesses_of script run)
          (in_numbers 0 script.ranks rank (omega arith) (omega (arith, touch.within)))
          (in_map (issued_access script run rank) (in_issued calls 0 log x.issue item.0 one.0 item.1
          (subst (λ n. issued_by calls n item.0 ≡ Some one.0) zero_plus item.2)));
      by = record { touch = touch; rank = refl; issue = sym issued.at };
    }

-- ---- its element and its change

pub record IsPart (script : Script) (run : Run) (a : IssuedAccess) (t : Transfer) (x : Touching) : Type 0 where
  pub by : IsTouchBy script run a x
  pub piece : Piece
  pub element : slice_get (pieces (layout script) a.issued.access t.dtype) x.element ≡ Some piece
  pub cell : piece.cell ≡ x.cell
  pub change : x.change ≡ change_of t x.element piece.first_byte

pieces_are : (script : Script) (a : IssuedAccess) (t : Transfer) →
    transfer_at (calls_of script a.id.rank) a.issued.number ≡ Some t →
    option_map_or (λ (t : Transfer). pieces (layout script) a.issued.access t.dtype)
    (transfer_at (calls_of script a.id.rank) a.issued.number) []
    ≡ pieces (layout script) a.issued.access t.dtype
pieces_are script a t moves =
    ap (λ o. option_map_or (λ (t : Transfer). pieces (layout script) a.issued.access t.dtype) o []) moves

-- the elements of an access are touched whole
pub touched_whole : (script : Script) (delay : Delay) (run : Run) → IsLawful script delay run →
    (a : IssuedAccess) (t : Transfer) →
    IsAccess script run a → transfer_at (calls_of script a.id.rank) a.issued.number ≡ Some t →
    touched_by a.issued.index (log_of run a.id.rank) ≡ elements_from 0 (pieces (layout script) a.issued.access t.dtype)
touched_whole script delay run lawful a t access moves =
    let here = rank_in script delay run a.id.rank in
    let log = log_of run a.id.rank in
    let law : IsTouchedWhole here log a.issued = each_in (IsTouchedWhole here log) (issued_in here log)
    (lawful.logs a.id.rank access.within).touches
    (issued_among here log a.issued (record { item = access.item; logged = access.logged; issued = access.issued })) in
    law ∙ ap (elements_from 0) (pieces_are script a t moves)

pub part_of : (script : Script) (delay : Delay) (run : Run) → IsLawful script delay run →
    (a : IssuedAccess) (t : Transfer) (x : Touching) →
    IsAccess script run a → transfer_at (calls_of script a.id.rank) a.issued.number ≡ Some t →
    IsTouchBy script run a x → IsPart script run a t x
part_of script delay run lawful a t x access moves by =
    let log = log_of run a.id.rank in
    let calls = calls_of script a.id.rank in
    let whole = touched_whole script delay run lawful a t access moves in
    let among = subst (In (x.element, x.cell)) whole
    (touch_among a.issued.index log x.id.index x.element x.cell x.place x.bits (touch_logged script run a x by)) in
    let one = element_is 0 (pieces (layout script) a.issued.access t.dtype) among in
    let at : one.0 ≡ x.element = omega (arith, one.2) in
    let element : slice_get (pieces (layout script) a.issued.access t.dtype) x.element ≡ Some one.1 =
    subst (λ k. slice_get (pieces (layout script) a.issued.access t.dtype) k ≡ Some one.1) at one.3 in
    let issue : issued_at (calls_of script x.id.rank) (log_of run x.id.rank) x.issue ≡ Some a.issued =
    ap (λ r. issued_at (calls_of script r) (log_of run r) x.issue) by.rank ∙ ap (issued_at calls log) by.issue
    ∙ ap (λ o. option_map_or (issued_by calls a.issued.index) o None) access.logged ∙ access.issued in
    record {
      by = by;
      piece = one.1;
      element = element;
      cell = one.4;
      change = by.touch.item.change
          ∙ ap (λ o. option_map_or (λ p. change_made (layout script) (calls_of script x.id.rank) p x.element) o None)
          issue
          ∙ ap (λ r. change_made (layout script) (calls_of script r) a.issued x.element) by.rank
          ∙ ap (λ o. option_map_or (λ (t : Transfer). option_map_or
          (λ (piece : Piece). change_of t x.element piece.first_byte)
          (slice_get (pieces (layout script) a.issued.access t.dtype) x.element) None) o None) moves
          ∙ ap (λ o. option_map_or (λ (piece : Piece). change_of t x.element piece.first_byte) o None) element;
    }

-- the change of an update: its element, and its access is an update
pub record IsUpdateOf (t : Transfer) (piece : Piece) (change : Change) : Type 0 where
  pub first : change.first_byte ≡ piece.first_byte
  pub dtype_is : change.dtype ≡ t.dtype
  pub updates : is_no_op t.op ≡ false

change_by : (t : Transfer) (element : ℕ) (piece : Piece) (change : Change) (b : Bool) → is_no_op t.op ≡ b →
    cond b None (Some (record {
      first_byte = piece.first_byte;
      dtype = t.dtype;
      op = t.op;
      operand = slice_index t.operands element;
      compare = t.compare;
    })) ≡ Some change → IsUpdateOf t piece change
change_by t element piece change true is e = absurd (cc e)
change_by t element piece change false is e =
    let same : record {
      first_byte = piece.first_byte;
      dtype = t.dtype;
      op = t.op;
      operand = slice_index t.operands element;
      compare = t.compare;
    } ≡ change = cc e in
    record {
      first = ap (λ (c : Change). c.first_byte) (sym same);
      dtype_is = ap (λ (c : Change). c.dtype) (sym same);
      updates = is;
    }

pub change_is : (t : Transfer) (element : ℕ) (piece : Piece) (change : Change) →
    change_of t element piece.first_byte ≡ Some change →
    IsUpdateOf t piece change
change_is t element piece change e = change_by t element piece change (is_no_op t.op) refl e

-- a read changes nothing
pub no_change : (t : Transfer) (element first_byte : ℕ) → is_no_op t.op ≡ true → change_of t element first_byte ≡ None
no_change t element first_byte reads = ap (λ b. cond b None (Some (record {
  first_byte = first_byte;
  dtype = t.dtype;
  op = t.op;
  operand = slice_index t.operands element;
  compare = t.compare;
}))) reads
