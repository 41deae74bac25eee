-- Numbers that rise.
use Rattle.std.proofs.Common.{◌≡◌, ℕ, ◌<◌, ◌≤◌, inl, inr, List, [], ◌∷◌, ◌++◌, length, get_or, ap, sym, ◌∙◌}
use Rattle.std.proofs.Common.{arith}
use Rattle.std.specs.Prelude.{Contains}
use Rattle.std.proofs.lemmas.Bool.{cases_lt}
use Rattle.std.proofs.lemmas.List.{get_or_append_left, get_or_push, length-append}
use Rattle.std.proofs.lemmas.Grind.{get_or_default_zero}
use Rattle.access_index.specs.Indexes.{IsRising}

-- the element at a place is there
pub there_at : (xs : List ℕ) (i : ℕ) → i < length xs → Contains xs (get_or xs i 0)
there_at xs i within = (i, within, get_or_default_zero xs i (get_or xs i 0) within)

-- an element is at a place
pub place_of : (xs : List ℕ) (x : ℕ) → Contains xs x → (i : ℕ) × (i < length xs) × (get_or xs i 0 ≡ x)
place_of xs x has = (has.0, has.1, sym (get_or_default_zero xs has.0 x has.1) ∙ has.2)

pub rising_push : (xs : List ℕ) (x : ℕ) → IsRising xs → ((y : ℕ) → Contains xs y → y ≤ x) →
    IsRising (xs ++ x ∷ [])
rising_push xs x rises most i j order within = elim (cases_lt j (length xs)) [
  | inl low ↦
      let one : get_or (xs ++ x ∷ []) i 0 ≡ get_or xs i 0 =
      get_or_append_left xs (x ∷ []) 0 i (omega (arith, order, low)) in
      let two : get_or (xs ++ x ∷ []) j 0 ≡ get_or xs j 0 = get_or_append_left xs (x ∷ []) 0 j low in
      let old : get_or xs i 0 ≤ get_or xs j 0 = rises i j order low in
      omega (arith, one, two, old)
  | inr high ↦
      let last : length xs ≡ j = omega (arith, high, within, length-append xs (x ∷ [])) in
      let two : get_or (xs ++ x ∷ []) j 0 ≡ x = get_or_push xs x 0 j last in
      elim (cases_lt i (length xs)) [
        | inl low ↦
            let one : get_or (xs ++ x ∷ []) i 0 ≡ get_or xs i 0 = get_or_append_left xs (x ∷ []) 0 i low in
            let old : get_or xs i 0 ≤ x = most (get_or xs i 0) (there_at xs i low) in
            omega (arith, one, two, old)
        | inr top ↦
            let same : i ≡ j = omega (arith, order, last, top) in
            let equal : get_or (xs ++ x ∷ []) i 0 ≡ get_or (xs ++ x ∷ []) j 0 =
            ap (λ n. get_or (xs ++ x ∷ []) n 0) same in
            omega (arith, equal)
      ]
]
