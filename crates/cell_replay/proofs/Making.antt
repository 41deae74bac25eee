-- The change of a touch, as the code finds it.
use Rattle.std.proofs.Common.{◌≡◌, ℕ, zero, suc, ◌+◌, ◌/◌, ◌≤◌, inl, inr, cond, List}
use Rattle.std.proofs.Common.{Option, Some, None, refl, ap, sym, ◌∙◌, arith}
use Rattle.std.specs.Prelude.{map, slice_get, nat_lt}
use Rattle.std.specs.Option.{option_map_or, option_and_then}
use Rattle.std.proofs.lemmas.Bool.{cases_lt, cond-true, cond-false, le-ltb, lt-ltb}
use Rattle.rma_types.specs.declared.accesses.Access.{Access}
use Rattle.rma_types.specs.declared.calls.Call.{Call}
use Rattle.rma_types.specs.declared.dtypes.Dtype.{Dtype}
use Rattle.rma_types.specs.declared.scripts.Layout.{Layout}
use Rattle.rma_types.specs.Datatypes.{size_of}
use Rattle.rma_record.specs.declared.items.Item.{Item}
use Rattle.rma_record.specs.declared.items.Item.TheVariants.{Issue, Null, Touch, Flush, Request, Entry, Tested, Refused}
use Rattle.rma_record.specs.declared.items.Item.TheVariants.{Ended}
use Rattle.call_rules.specs.declared.elements.Change.{Change}
use Rattle.call_rules.specs.declared.elements.Piece.{Piece}
use Rattle.rma_types.specs.declared.actions.Transfer.{Transfer}
use Rattle.rma_types.specs.Actions.{transfer_of}
use Rattle.call_rules.specs.Pieces.{element_address, numbers_from, piece_at, pieces}
use Rattle.call_rules.specs.Transfers.{change_of}
use Rattle.call_rules.proofs.NumbersFrom.{got_number}
use Rattle.lawful_runs.specs.Accesses.{change_made, issued_at, issued_by, transfer_at}
use Rattle.rank_rules.specs.declared.pending.PendingAccess.{PendingAccess}
use Rattle.cell_replay.specs.Kept.{change_in, change_issued, change_kept, first_byte_at}

past_got : {X : Type 0} (f : ℕ → X) (first count k : ℕ) → count ≤ k →
    slice_get (map f (numbers_from first count)) k ≡ None
past_got f first zero zero past = refl
past_got f first zero (suc k) past = refl
past_got f first (suc count) zero past = absurd (omega arith)
past_got f first (suc count) (suc k) past = past_got f (first + 1) count k (omega (arith, past))

module _ (memory : Layout) (access : Access) (element : ℕ) where
  -- the change of an element of a transfer, by its piece
  abbrev by_piece : Option Transfer → Option Change
  by_piece o = option_map_or (λ (t : Transfer). option_map_or (λ (piece : Piece). change_of t element piece.first_byte)
      (slice_get (pieces memory access t.dtype) element) None) o None

  abbrev by_first_byte : Option Transfer → Option Change
  by_first_byte o = option_map_or (λ (dtype : Dtype). cond (nat_lt element (access.len / size_of dtype))
      (option_and_then (λ (t : Transfer). change_of t element (first_byte_at access dtype element)) o) None)
      (option_map_or (λ (t : Transfer). Some t.dtype) o None) None

  same_change : (o : Option Transfer) → by_first_byte o ≡ by_piece o
  same_change None = refl
  same_change (Some t) = elim (cases_lt element (access.len / size_of t.dtype)) [
    | inl below ↦
        let e : element ≡ 0 + element = omega arith in
        cond-true (nat_lt element (access.len / size_of t.dtype))
        (change_of t element (first_byte_at access t.dtype element)) None
        (lt-ltb element (access.len / size_of t.dtype) below)
        ∙ ap (λ n. change_of t element (first_byte_at access t.dtype n)) e
        ∙ ap (λ o. option_map_or (λ (piece : Piece). change_of t element piece.first_byte) o None)
        (sym (got_number (λ n. piece_at memory access.target (element_address access t.dtype n)) 0
        (access.len / size_of t.dtype) element below))
    | inr past ↦
        cond-false (nat_lt element (access.len / size_of t.dtype))
        (change_of t element (first_byte_at access t.dtype element)) None
        (le-ltb element (access.len / size_of t.dtype) past)
        ∙ ap (λ o. option_map_or (λ (piece : Piece). change_of t element piece.first_byte) o None)
        (sym (past_got (λ n. piece_at memory access.target (element_address access t.dtype n)) 0
        (access.len / size_of t.dtype) element past))
  ]

  by_call : (o : Option Call) → option_map_or (λ call. change_in access call element) o None
      ≡ by_piece (option_map_or transfer_of o None)
  by_call None = refl
  by_call (Some call) = same_change (transfer_of call)

  by_issue : (calls : List Call) (issue number : ℕ) (o : Option Transfer) → transfer_at calls number ≡ o →
      option_map_or (λ (one : PendingAccess). change_made memory calls one element)
      (option_map_or (λ (t : Transfer). Some
      (record { index = issue; number = number; access = access; fetches = t.fetches })) o None) None ≡ by_piece o
  by_issue calls issue number None e = refl
  by_issue calls issue number (Some t) e = ap by_piece e

by_item : (memory : Layout) (calls : List Call) (issue element : ℕ) (item : Item) → change_issued calls element item
    ≡ option_map_or (λ (one : PendingAccess). change_made memory calls one element) (issued_by calls issue item) None
by_item memory calls issue element (Issue number access) =
    by_call memory access element (slice_get calls number)
    ∙ sym (by_issue memory access element calls issue number (transfer_at calls number) refl)
by_item memory calls issue element (Null number) = refl
by_item memory calls issue element (Touch other one cell place bits) = refl
by_item memory calls issue element (Flush number) = refl
by_item memory calls issue element (Request number) = refl
by_item memory calls issue element (Entry number place step) = refl
by_item memory calls issue element (Tested number seen) = refl
by_item memory calls issue element (Refused number class seen) = refl
by_item memory calls issue element Ended = refl

-- the change that the code finds is the one that the touch makes
pub change_is_made : (memory : Layout) (calls : List Call) (log : List Item) (issue element : ℕ) →
    change_kept calls log issue element
    ≡ option_map_or (λ (one : PendingAccess). change_made memory calls one element) (issued_at calls log issue) None
change_is_made memory calls log issue element = by_log (slice_get log issue)
  where
    by_log : (o : Option Item) → option_map_or (change_issued calls element) o None
        ≡ option_map_or (λ (one : PendingAccess). change_made memory calls one element)
        (option_map_or (issued_by calls issue) o None) None
    by_log None = refl
    by_log (Some item) = by_item memory calls issue element item
