-- One more of the touches of a log, of the ranks and of the numbers.
use Rattle.std.proofs.Common.{◌≡◌, ℕ, zero, suc, ◌+◌, ◌-◌, ◌<◌, List, [], ◌∷◌, ◌++◌, length, map, refl, ap, sym, ◌∙◌}
use Rattle.std.proofs.Common.{◌≤◌, append_assoc, arith}
use Rattle.std.specs.Prelude.{drop, slice_index_or}
use Rattle.std.specs.List.{flat_map}
use Rattle.std.proofs.lemmas.List.Concat.{flat_map-cons}
use Rattle.list_laws.proofs.Lists.{drop_at}
use Rattle.rma_types.specs.declared.calls.Call.{Call}
use Rattle.rma_types.specs.declared.scripts.Layout.{Layout}
use Rattle.rma_record.specs.declared.items.Item.{Item}
use Rattle.call_rules.specs.Pieces.{numbers_from}
use Rattle.lawful_runs.specs.Accesses.{touches_among, touching_by}
use Rattle.lawful_runs.specs.Logs.{Named, named_from}

-- the touch of the next item, and those that are left after it
pub touches_step : (memory : Layout) (calls : List Call) (log : List Item) (rank at : ℕ) (d : Item) →
    at < length log →
    touching_by memory calls log (record { rank = rank; index = at }) (slice_index_or log at d)
    ++ touches_among memory calls log (named_from rank (at + 1) (drop (at + 1) log))
    ≡ touches_among memory calls log (named_from rank at (drop at log))
touches_step memory calls log rank at d within =
    ap (λ n. touching_by memory calls log (record { rank = rank; index = at }) (slice_index_or log at d)
    ++ touches_among memory calls log (named_from rank (at + 1) (drop n log))) next
    ∙ sym (flat_map-cons (λ (one : Named). touching_by memory calls log one.id one.item)
    (record { id = record { rank = rank; index = at }; item = slice_index_or log at d })
    (named_from rank (at + 1) (drop (suc at) log)))
    ∙ ap (λ l. touches_among memory calls log (named_from rank at l)) (sym (drop_at log at d within))
  where
    next : at + 1 ≡ suc at
    next = omega arith

pub numbers_step : (first end : ℕ) → first < end →
    numbers_from first (end - first) ≡ first ∷ numbers_from (first + 1) (end - (first + 1))
numbers_step first end below =
    let e : end - first ≡ suc (end - (first + 1)) = omega (arith, below) in ap (numbers_from first) e

-- the list of the next number, and those that are left after it
pub lists_step : {X : Type 0} (f : ℕ → List X) (first end : ℕ) → first < end →
    f first ++ flat_map f (numbers_from (first + 1) (end - (first + 1))) ≡ flat_map f (numbers_from first (end - first))
lists_step f first end below =
    sym (flat_map-cons f first (numbers_from (first + 1) (end - (first + 1))))
    ∙ ap (flat_map f) (sym (numbers_step first end below))

-- the value of the next number, and those that are left after it
pub values_step : {X : Type 0} (f : ℕ → X) (first end : ℕ) → first < end →
    f first ∷ map f (numbers_from (first + 1) (end - (first + 1))) ≡ map f (numbers_from first (end - first))
values_step f first end below = ap (map f) (sym (numbers_step first end below))

-- what was added and what is left, with one more added
pub joined : {X : Type 0} (old new one rest left : List X) → new ≡ old ++ one → one ++ rest ≡ left →
    new ++ rest ≡ old ++ left
joined old new one rest left added step =
    ap (λ l. l ++ rest) added ∙ append_assoc old one rest ∙ ap (λ l. old ++ l) step

pub append_none : {X : Type 0} (xs : List X) → xs ++ [] ≡ xs
append_none [] = refl
append_none (x ∷ xs) = ap (λ l. x ∷ l) (append_none xs)

pub drop_past : {X : Type 0} (xs : List X) (k : ℕ) → length xs ≤ k → drop k xs ≡ []
drop_past [] zero past = refl
drop_past [] (suc k) past = refl
drop_past (x ∷ xs) zero past = absurd (omega arith)
drop_past (x ∷ xs) (suc k) past = drop_past xs k (omega (arith, past))

pub numbers_past : (first end : ℕ) → end ≤ first → numbers_from first (end - first) ≡ []
numbers_past first end past = let e : end - first ≡ 0 = omega (arith, past) in ap (numbers_from first) e
