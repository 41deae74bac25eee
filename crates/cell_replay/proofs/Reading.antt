-- The ordered read of the access that the item of a name issues.
use Rattle.std.proofs.Common.{◌≡◌, ℕ, inl, inr, List, [], ◌∷◌, ◌++◌, Option, Some, None, refl}
use Rattle.std.proofs.Common.{ap, sym, ◌∙◌}
use Rattle.std.specs.Prelude.{map, slice_get, nat_lt, Bool}
use Rattle.std.specs.List.{flat_map}
use Rattle.std.specs.Option.{option_map_or}
use Rattle.std.proofs.lemmas.Bool.{cases_lt, cond-true, cond-false, le-ltb, lt-ltb}
use Rattle.rma_types.specs.declared.accesses.Access.{Access}
use Rattle.rma_types.specs.declared.accesses.Id.{Id}
use Rattle.rma_types.specs.declared.calls.Call.{Call}
use Rattle.rma_types.specs.declared.dtypes.Dtype.{Dtype}
use Rattle.rma_types.specs.declared.scripts.Script.{Script}
use Rattle.rma_record.specs.declared.items.Item.{Item}
use Rattle.rma_record.specs.declared.items.Item.TheVariants.{Issue, Null, Touch, Flush, Request, Entry, Tested, Refused}
use Rattle.rma_record.specs.declared.items.Item.TheVariants.{Ended}
use Rattle.rma_record.specs.declared.runs.Run.{Run}
use Rattle.rma_types.specs.declared.actions.Transfer.{Transfer}
use Rattle.call_rules.specs.Layout.{layout}
use Rattle.call_rules.specs.Pieces.{pieces}
use Rattle.lawful_runs.specs.Accesses.{all_touches, issued_by, transfer_at}
use Rattle.lawful_runs.specs.Logs.{calls_of, log_of}
use Rattle.order_rules.specs.CallSteps.{issued_access}
use Rattle.order_rules.specs.OrderedReads.{ordered_read, ordered_read_of}
use Rattle.rank_rules.specs.declared.pending.PendingAccess.{PendingAccess}
use Rattle.cell_replay.specs.Kept.{access_by, access_named, element_left}
use Rattle.cell_replay.proofs.Naming.{named_inside, named_outside}

module _ (script : Script) (run : Run) (before : Id → Id → Bool) (id : Id) where
  abbrev pub left_in : Access × Dtype → List ℕ
  left_in found = map (element_left (all_touches script run) before id found.1)
      (pieces (layout script) found.0 found.1)

  abbrev pub read_found : Option (Access × Dtype) → List ℕ
  read_found o = option_map_or left_in o []

  abbrev calls_here : List Call
  calls_here = calls_of script id.rank

  abbrev reads_of : Option PendingAccess → List ℕ
  reads_of o = flat_map (ordered_read script run before)
      (option_map_or (λ one. issued_access script run id.rank one ∷ []) o [])

  append_none : (xs : List ℕ) → xs ++ [] ≡ xs
  append_none [] = refl
  append_none (x ∷ xs) = ap (λ l. x ∷ l) (append_none xs)

  -- what is read of the access that an Issue makes, whose transfer is this one
  abbrev read_with : Access → Option Transfer → List ℕ
  read_with access o = option_map_or (λ (t : Transfer). map (element_left (all_touches script run) before id t.dtype)
      (option_map_or (λ (t : Transfer). pieces (layout script) access t.dtype) o [])) o []

  of_issue : (number : ℕ) (access : Access) (o : Option Transfer) → transfer_at calls_here number ≡ o →
      reads_of (option_map_or (λ (t : Transfer). Some
      (record { index = id.index; number = number; access = access; fetches = t.fetches })) o None)
      ≡ read_found (option_map_or (λ (t : Transfer). Some (access, t.dtype)) o None)
  of_issue number access None e = refl
  of_issue number access (Some t) e =
      append_none (read_with access (transfer_at calls_here number)) ∙ ap (read_with access) e

  of_item : (item : Item) → reads_of (issued_by calls_here id.index item) ≡ read_found (access_by calls_here item)
  of_item (Issue number access) = of_issue number access (transfer_at calls_here number) refl
  of_item (Null number) = refl
  of_item (Touch issue element cell place bits) = refl
  of_item (Flush number) = refl
  of_item (Request number) = refl
  of_item (Entry number place step) = refl
  of_item (Tested number seen) = refl
  of_item (Refused number class seen) = refl
  of_item Ended = refl

  at_item : (o : Option Item) → reads_of (option_map_or (issued_by calls_here id.index) o None)
      ≡ read_found (option_map_or (access_by calls_here) o None)
  at_item None = refl
  at_item (Some item) = of_item item

  pub read_named : ordered_read_of script run before id ≡ read_found (access_named script run id)
  read_named = elim (cases_lt id.rank script.ranks) [
    | inl below ↦ ap (flat_map (ordered_read script run before)) (named_inside script run id below)
        ∙ at_item (slice_get (log_of run id.rank) id.index)
        ∙ ap read_found (sym (cond-true (nat_lt id.rank script.ranks)
        (option_map_or (access_by calls_here) (slice_get (log_of run id.rank) id.index) None) None
        (lt-ltb id.rank script.ranks below)))
    | inr above ↦ ap (flat_map (ordered_read script run before)) (named_outside script run id above)
        ∙ ap read_found (sym (cond-false (nat_lt id.rank script.ranks)
        (option_map_or (access_by calls_here) (slice_get (log_of run id.rank) id.index) None) None
        (le-ltb id.rank script.ranks above)))
  ]
