-- The access of a name.
use Rattle.std.proofs.Common.{◌≡◌, ℕ, ◌+◌, ◌<◌, inl, inr, Bool, true, false, List, [], ◌∷◌, Option, Some, None}
use Rattle.std.proofs.Common.{length, refl, ap, ◌∙◌, arith}
use Rattle.std.specs.Prelude.{drop, if◌then◌else◌, map, slice_index_or}
use Rattle.std.specs.List.{AllByRecursion, filter, find}
use Rattle.std.specs.Option.{option_map_or, option_or}
use Rattle.std.proofs.lemmas.Bool.{cases_Bool}
use Rattle.std.proofs.lemmas.List.{drop_more}
use Rattle.std.proofs.lemmas.List.Folds.{find-append}
use Rattle.list_laws.proofs.Each.{each_unmapped}
use Rattle.rma_types.specs.declared.accesses.Id.{Id}
use Rattle.lawful_runs.specs.Accesses.{EachPair}
use Rattle.order_rules.specs.Before.{is_same_id}
use Rattle.order_laws.specs.FindingLaws.{IsSmaller}
use Rattle.order_laws.proofs.Order.{same_from}
use Rattle.rank_records.specs.declared.kept.KeptAccess.{KeptAccess}
use Rattle.rank_records.specs.declared.kept.RankRecord.{RankRecord}
use Rattle.first_points.specs.KeptPoints.{kept_accesses}
use Rattle.every_point.specs.Points.{access_named, is_named}

-- ---- the search by rank

in_first : (id : Id) (kept : RankRecord) (rest : List RankRecord) (o : Option KeptAccess) →
    find (is_named id) kept.accesses ≡ o → access_named id (kept ∷ rest) ≡ option_or o (access_named id rest)
in_first id kept rest o found =
    find-append (is_named id) kept.accesses (kept_accesses rest)
    ∙ ap (λ p. option_or p (access_named id rest)) found

-- the access is one of the rank at this place
pub named_here : (id : Id) (records : List RankRecord) (i : ℕ) (d : RankRecord) (a : KeptAccess) → i < length records →
    find (is_named id) (slice_index_or records i d).accesses ≡ Some a → access_named id (drop i records) ≡ Some a
named_here id records i d a within found =
    ap (access_named id) (drop_more records i d within)
    ∙ in_first id (slice_index_or records i d) (drop (i + 1) records) (Some a) found

-- the access is none of the rank at this place
pub named_later : (id : Id) (records : List RankRecord) (i : ℕ) (d : RankRecord) → i < length records →
    find (is_named id) (slice_index_or records i d).accesses ≡ None →
    access_named id (drop i records) ≡ access_named id (drop (i + 1) records)
named_later id records i d within none =
    ap (access_named id) (drop_more records i d within)
    ∙ in_first id (slice_index_or records i d) (drop (i + 1) records) None none

-- ---- no name stands twice

module _ {X : Type 0} (name : X → Id) (id : Id) where
  not_smaller : (a b : Id) → a ≡ id → b ≡ id → IsSmaller a b → ⊥
  not_smaller a b first second (inl below) =
      let one = ap (λ (i : Id). i.rank) first in
      let two = ap (λ (i : Id). i.rank) second in
      omega (arith, below, one, two)
  not_smaller a b first second (inr (same, below)) =
      let one = ap (λ (i : Id). i.index) first in
      let two = ap (λ (i : Id). i.index) second in
      omega (arith, below, one, two)

  none_later : (x : X) → name x ≡ id → (xs : List X) → AllByRecursion (λ y. IsSmaller (name x) (name y)) xs →
      filter (λ y. is_same_id (name y) id) xs ≡ []
  none_later x is [] all = refl
  none_later x is (y ∷ ys) all = elim (cases_Bool (is_same_id (name y) id)) [
    | inl same ↦ absurd (not_smaller (name x) (name y) is (same_from (name y) id same) all.0)
    | inr other ↦
        ap (λ b. if b then y ∷ filter (λ z. is_same_id (name z) id) ys else filter (λ z. is_same_id (name z) id) ys)
        other ∙ none_later x is ys all.1
  ]

  -- of a list in the order of its names, those of one name are the first that has it
  pub named_once : (xs : List X) → EachPair (λ x y. IsSmaller (name x) (name y)) xs →
      filter (λ y. is_same_id (name y) id) xs
      ≡ option_map_or (λ y. y ∷ []) (find (λ y. is_same_id (name y) id) xs) []
  named_once [] all = refl
  named_once (x ∷ xs) all = by (named_once xs all.1) (is_same_id (name x) id) refl
    where
      by : filter (λ y. is_same_id (name y) id) xs
          ≡ option_map_or (λ y. y ∷ []) (find (λ y. is_same_id (name y) id) xs) [] →
          (b : Bool) → is_same_id (name x) id ≡ b →
          (if b then x ∷ filter (λ y. is_same_id (name y) id) xs else filter (λ y. is_same_id (name y) id) xs)
          ≡ option_map_or (λ y. y ∷ [])
          (if b then Some x else find (λ y. is_same_id (name y) id) xs) []
      by rest true same = ap (λ l. x ∷ l) (none_later x (same_from (name x) id same) xs all.0)
      by rest false other = rest

pub pairs_unmapped : {X Y : Type 0} (R : Y → Y → Type 0) (f : X → Y) (xs : List X) → EachPair R (map f xs) →
    EachPair (λ x y. R (f x) (f y)) xs
pairs_unmapped R f [] all = tt
pairs_unmapped R f (x ∷ xs) all = (each_unmapped (R (f x)) f xs all.0, pairs_unmapped R f xs all.1)
