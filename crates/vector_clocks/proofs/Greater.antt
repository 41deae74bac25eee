-- The greater of each two numbers.
use Rattle.std.proofs.Common.{◌≡◌, ℕ, zero, suc, ◌+◌, ◌<◌, ◌≤◌, ◌⊎◌, inl, inr, List, [], ◌∷◌, length, refl, sym, subst}
use Rattle.std.proofs.Common.{arith}
use Rattle.std.specs.Prelude.{max, slice_index}
use Rattle.std.specs.List.{fold}
use Rattle.std.proofs.lemmas.Bool.{cases_eq, cases_lt}
use Rattle.std.proofs.lemmas.List.{get_or-set_same, get_or-set_other}
use Rattle.list_laws.proofs.Members.{In, here, there}
use Rattle.cell_face.specs.Fronts.{greater}
use Rattle.vector_clocks.specs.Numbers.{raised}

pub greater_at : (xs ys : List ℕ) (rank : ℕ) → slice_index (greater xs ys) rank
    ≡ max (slice_index xs rank) (slice_index ys rank)
greater_at [] ys rank = omega arith
greater_at (x ∷ xs) [] rank = omega arith
greater_at (x ∷ xs) (y ∷ ys) zero = refl
greater_at (x ∷ xs) (y ∷ ys) (suc rank) = greater_at xs ys rank

pub fold_first : (first : List ℕ) (rest : List (List ℕ)) (rank : ℕ) →
    slice_index first rank ≤ slice_index (fold greater first rest) rank
fold_first first [] rank = omega arith
fold_first first (one ∷ rest) rank =
    let at = greater_at first one rank in
    let more = fold_first (greater first one) rest rank in
    omega arith

pub fold_in : (first : List ℕ) (rest : List (List ℕ)) (rank : ℕ) {one : List ℕ} → In one rest →
    slice_index one rank ≤ slice_index (fold greater first rest) rank
fold_in first [] rank m = elim m [ ]
fold_in first (one ∷ rest) rank here =
    let at = greater_at first one rank in
    let more = fold_first (greater first one) rest rank in
    omega arith
fold_in first (other ∷ rest) rank (there m) = fold_in (greater first other) rest rank m

pub fold_from : (first : List ℕ) (rest : List (List ℕ)) (rank n : ℕ) → n < slice_index (fold greater first rest) rank →
    (n < slice_index first rank) ⊎ ((one : List ℕ) × In one rest × (n < slice_index one rank))
fold_from first [] rank n below = inl below
fold_from first (one ∷ rest) rank n below = elim (fold_from (greater first one) rest rank n below) [
  | inr far ↦ inr (far.0, there far.1, far.2)
  | inl near ↦
      let at = greater_at first one rank in
      elim (cases_lt n (slice_index first rank)) [ inl low ↦ inl low | inr high ↦ inr (one, here, omega arith) ]
]

-- ---- the clock with its own item

at_rank : (prev : List ℕ) (rank index : ℕ) → rank < length prev → slice_index (raised prev rank index) rank
    ≡ max (slice_index prev rank) (index + 1)
unfolding raised
at_rank prev rank index within = get_or-set_same prev rank (max (slice_index prev rank) (index + 1)) 0 within

at_other : (prev : List ℕ) (rank index other : ℕ) → (other ≡ rank → ⊥) → slice_index (raised prev rank index) other
    ≡ slice_index prev other
unfolding raised
at_other prev rank index other apart = get_or-set_other prev rank other (max (slice_index prev rank) (index + 1)) 0
    apart

pub raised_above : (prev : List ℕ) (rank index other : ℕ) → rank < length prev →
    slice_index prev other ≤ slice_index (raised prev rank index) other
raised_above prev rank index other within = elim (cases_eq other rank) [
  | inl same ↦
      let at = at_rank prev rank index within in
      subst (λ r. slice_index prev r ≤ slice_index (raised prev rank index) r) (sym same) (omega (arith, at))
  | inr apart ↦ let at = at_other prev rank index other apart in omega (arith, at)
]

pub raised_own : (prev : List ℕ) (rank index : ℕ) → rank < length prev →
    index < slice_index (raised prev rank index) rank
raised_own prev rank index within = let at = at_rank prev rank index within in omega (arith, at)

pub raised_from : (prev : List ℕ) (rank index other n : ℕ) → rank < length prev →
    n < slice_index (raised prev rank index) other →
    (n < slice_index prev other) ⊎ ((other ≡ rank) × (n ≤ index))
raised_from prev rank index other n within below = elim (cases_eq other rank) [
  | inr apart ↦ let at = at_other prev rank index other apart in inl (omega (arith, at, below))
  | inl same ↦
      let at = at_rank prev rank index within in
      let here : n < slice_index (raised prev rank index) rank =
      subst (λ r. n < slice_index (raised prev rank index) r) same below in
      elim (cases_lt n (slice_index prev rank)) [
        | inl low ↦ inl (subst (λ r. n < slice_index prev r) (sym same) low)
        | inr high ↦ inr (same, omega (arith, at, here, high))
      ]
]
