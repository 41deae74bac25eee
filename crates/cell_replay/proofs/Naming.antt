-- The access of a name is the one that the item of that name issues.
use Rattle.std.proofs.Common.{◌≡◌, ℕ, zero, suc, ◌+◌, ◌<◌, ◌≤◌, ◌⊎◌, inl, inr, Bool, cond, List, [], ◌∷◌}
use Rattle.std.proofs.Common.{◌++◌, Option, Some, None, refl, ap, ◌∙◌, arith}
use Rattle.std.specs.Prelude.{map, slice_get, ◌==◌, ◌&&◌}
use Rattle.std.specs.List.{filter, flat_map}
use Rattle.std.specs.Option.{option_map_or}
use Rattle.std.proofs.lemmas.Bool.{cases_lt, cases_eq, eq-eqb, ne_eqb}
use Rattle.std.proofs.lemmas.List.{map-append}
use Rattle.std.proofs.lemmas.List.Elements.{filter-append}
use Rattle.std.proofs.lemmas.List.Concat.{flat_map-cons}
use Rattle.rma_types.specs.declared.accesses.Id.{Id}
use Rattle.rma_types.specs.declared.calls.Call.{Call}
use Rattle.rma_types.specs.declared.scripts.Script.{Script}
use Rattle.rma_record.specs.declared.items.Item.{Item}
use Rattle.rma_record.specs.declared.runs.Run.{Run}
use Rattle.call_rules.specs.Pieces.{numbers_from}
use Rattle.lawful_runs.specs.Accesses.{issued_by, issued_from}
use Rattle.lawful_runs.specs.Logs.{calls_of, log_of}
use Rattle.order_rules.specs.Before.{is_same_id}
use Rattle.order_rules.specs.CallSteps.{IssuedAccess, accesses_named, accesses_of, issued_access}
use Rattle.rank_rules.specs.declared.pending.PendingAccess.{PendingAccess}
use Rattle.read_laws.proofs.Touches.{issued_is}

-- ---- of lists by number, those of one number alone pass

module _ {X : Type 0} (test : X → Bool) (f : ℕ → List X) (n : ℕ)
    (apart : (m : ℕ) → (m ≡ n → ⊥) → filter test (f m) ≡ []) where
  first_of_them : (first : ℕ) (rest : List ℕ) →
      filter test (flat_map f (first ∷ rest)) ≡ filter test (f first) ++ filter test (flat_map f rest)
  first_of_them first rest = ap (filter test) (flat_map-cons f first rest)
      ∙ filter-append test (f first) (flat_map f rest)

  pub none_passes : (first count : ℕ) → (n < first) ⊎ (first + count ≤ n) →
      filter test (flat_map f (numbers_from first count)) ≡ []
  none_passes first zero out = refl
  none_passes first (suc count) (inl below) =
      first_of_them first (numbers_from (first + 1) count)
      ∙ ap (λ l. l ++ filter test (flat_map f (numbers_from (first + 1) count)))
      (apart first (λ e. absurd (omega (arith, e, below))))
      ∙ none_passes (first + 1) count (inl (omega arith))
  none_passes first (suc count) (inr above) =
      first_of_them first (numbers_from (first + 1) count)
      ∙ ap (λ l. l ++ filter test (flat_map f (numbers_from (first + 1) count)))
      (apart first (λ e. absurd (omega (arith, e, above))))
      ∙ none_passes (first + 1) count (inr (omega arith))

  pub one_passes : (first count : ℕ) → first ≤ n → n < first + count →
      filter test (flat_map f (numbers_from first count)) ≡ filter test (f n)
  one_passes first zero low high = absurd (omega arith)
  one_passes first (suc count) low high = elim (cases_eq first n) [
    | inl here ↦ first_of_them first (numbers_from (first + 1) count)
        ∙ ap (λ l. filter test (f first) ++ l) (none_passes (first + 1) count (inl (omega (arith, here))))
        ∙ append_none (filter test (f first)) ∙ ap (λ m. filter test (f m)) here
    | inr other ↦ first_of_them first (numbers_from (first + 1) count)
        ∙ ap (λ l. l ++ filter test (flat_map f (numbers_from (first + 1) count))) (apart first other)
        ∙ one_passes (first + 1) count (later first other low) (omega arith)
  ]
    where
      append_none : (xs : List X) → xs ++ [] ≡ xs
      append_none [] = refl
      append_none (x ∷ xs) = ap (λ l. x ∷ l) (append_none xs)

      later : (first : ℕ) → (first ≡ n → ⊥) → first ≤ n → first + 1 ≤ n
      later first other low = elim (cases_lt first n) [
        | inl below ↦ omega (arith, below)
        | inr above ↦ let e : first ≡ n = omega (arith, low, above) in absurd (other e)
      ]

-- ---- of the accesses of a log

module _ (script : Script) (run : Run) (id : Id) where
  abbrev is_named : IssuedAccess → Bool
  is_named a = is_same_id a.id id

  abbrev named : ℕ → PendingAccess → IssuedAccess
  named rank one = issued_access script run rank one

  abbrev listed : ℕ → Option PendingAccess → List IssuedAccess
  listed rank o = option_map_or (λ one. named rank one ∷ []) o []

  other_rank : (rank : ℕ) → (rank ≡ id.rank → ⊥) → (xs : List PendingAccess) →
      filter is_named (map (named rank) xs) ≡ []
  other_rank rank other [] = refl
  other_rank rank other (one ∷ xs) =
      ap (λ b. cond (b && one.index == id.index) (named rank one ∷ filter is_named (map (named rank) xs))
      (filter is_named (map (named rank) xs))) (ne_eqb rank id.rank other)
      ∙ other_rank rank other xs

  abbrev in_list : Option PendingAccess → List PendingAccess
  in_list o = option_map_or (λ one. one ∷ []) o []

  -- an access of another index
  other_index : (o : Option PendingAccess) →
      ((one : PendingAccess) → o ≡ Some one → one.index ≡ id.index → ⊥) →
      filter is_named (map (named id.rank) (in_list o)) ≡ []
  other_index None other = refl
  other_index (Some one) other =
      ap (λ b. cond (b && one.index == id.index) (named id.rank one ∷ []) []) (eq-eqb id.rank id.rank refl)
      ∙ ap (λ b. cond b (named id.rank one ∷ []) []) (ne_eqb one.index id.index (other one refl))

  this_index : (o : Option PendingAccess) → ((one : PendingAccess) → o ≡ Some one → one.index ≡ id.index) →
      filter is_named (map (named id.rank) (in_list o)) ≡ listed id.rank o
  this_index None this = refl
  this_index (Some one) this =
      ap (λ b. cond (b && one.index == id.index) (named id.rank one ∷ []) []) (eq-eqb id.rank id.rank refl)
      ∙ ap (λ b. cond b (named id.rank one ∷ []) []) (eq-eqb one.index id.index (this one refl))

  abbrev calls_here : List Call
  calls_here = calls_of script id.rank

  parted : (o : Option PendingAccess) (rest : List PendingAccess) →
      filter is_named (map (named id.rank) (in_list o ++ rest))
      ≡ filter is_named (map (named id.rank) (in_list o)) ++ filter is_named (map (named id.rank) rest)
  parted o rest = ap (filter is_named) (map-append (named id.rank) (in_list o) rest)
      ∙ filter-append is_named (map (named id.rank) (in_list o)) (map (named id.rank) rest)

  index_of : (first : ℕ) (item : Item) (one : PendingAccess) → issued_by calls_here first item ≡ Some one →
      one.index ≡ first
  index_of first item one e = (issued_is calls_here first item one e).at

  later_indices : (first : ℕ) (items : List Item) → id.index < first →
      filter is_named (map (named id.rank) (issued_from calls_here first items)) ≡ []
  later_indices first [] below = refl
  later_indices first (item ∷ items) below =
      parted (issued_by calls_here first item) (issued_from calls_here (first + 1) items)
      ∙ ap (λ l. l ++ filter is_named (map (named id.rank) (issued_from calls_here (first + 1) items)))
      (other_index (issued_by calls_here first item) (λ one e same. absurd (omega (
        arith,
        index_of first item one e,
        same,
        below,
      ))))
      ∙ later_indices (first + 1) items (omega arith)

  at_index : (first k : ℕ) (items : List Item) → id.index ≡ first + k →
      filter is_named (map (named id.rank) (issued_from calls_here first items))
      ≡ listed id.rank (option_map_or (issued_by calls_here id.index) (slice_get items k) None)
  at_index first k [] at = refl
  at_index first zero (item ∷ items) at =
      let here : first ≡ id.index = omega (arith, at) in
      parted (issued_by calls_here first item) (issued_from calls_here (first + 1) items)
      ∙ ap (λ l. filter is_named (map (named id.rank) (in_list (issued_by calls_here first item))) ++ l)
      (later_indices (first + 1) items (omega (arith, at)))
      ∙ append_none (filter is_named (map (named id.rank) (in_list (issued_by calls_here first item))))
      ∙ this_index (issued_by calls_here first item) (λ one e. index_of first item one e ∙ here)
      ∙ ap (λ n. listed id.rank (issued_by calls_here n item)) here
    where
      append_none : {X : Type 0} (xs : List X) → xs ++ [] ≡ xs
      append_none [] = refl
      append_none (x ∷ xs) = ap (λ l. x ∷ l) (append_none xs)
  at_index first (suc k) (item ∷ items) at =
      parted (issued_by calls_here first item) (issued_from calls_here (first + 1) items)
      ∙ ap (λ l. l ++ filter is_named (map (named id.rank) (issued_from calls_here (first + 1) items)))
      (other_index (issued_by calls_here first item) (λ one e same. absurd (omega (
        arith,
        index_of first item one e,
        same,
        at,
      ))))
      ∙ at_index (first + 1) k items (omega (arith, at))

  in_rank : filter is_named (accesses_of script run id.rank)
      ≡ listed id.rank (option_map_or (issued_by calls_here id.index) (slice_get (log_of run id.rank) id.index) None)
  in_rank = at_index 0 id.index (log_of run id.rank) (omega arith)

  pub named_inside : id.rank < script.ranks → accesses_named script run id
      ≡ listed id.rank (option_map_or (issued_by calls_here id.index) (slice_get (log_of run id.rank) id.index) None)
  named_inside below =
      one_passes is_named (accesses_of script run) id.rank
      (λ rank other. other_rank rank other (issued_from (calls_of script rank) 0 (log_of run rank)))
      0 script.ranks (omega arith) (omega (arith, below))
      ∙ in_rank

  pub named_outside : script.ranks ≤ id.rank → accesses_named script run id ≡ []
  named_outside above =
      none_passes is_named (accesses_of script run) id.rank
      (λ rank other. other_rank rank other (issued_from (calls_of script rank) 0 (log_of run rank)))
      0 script.ranks (inr (omega (arith, above)))
