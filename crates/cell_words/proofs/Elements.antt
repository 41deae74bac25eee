-- Elements of lists.
use Rattle.std.proofs.Common.{◌≡◌, inl, inr, ℕ, zero, suc, ◌+◌, ◌<◌, ◌≤◌, List, [], ◌∷◌, ◌++◌, length, max}
use Rattle.std.proofs.Common.{get_or, set, drop, ◌/◌, refl, sym, ap, ◌∙◌, arith, Contains}
use Rattle.std.proofs.Math.ListN.{get_or-append}
use Rattle.std.proofs.Math.Seq.{get_or-append_seam}
use Rattle.std.proofs.lemmas.List.{length-append}
use Rattle.std.proofs.lemmas.Bool.{cases_lt}
use mathlib.Core.Option.{some, some-injective, some-ne-none}
use lib.ListN.{get_elem?}
use Rattle.cell_face.specs.Fronts.{greater}
use Rattle.cell_words.specs.Views.{head, zeros}

module _ {A : Type 0} where
  -- a list of one has that one
  pub only : (x y : A) → Contains (x ∷ []) y → x ≡ y
  only x y has = only_at x y has.0 has.1 has.2 where
    only_at : (x y : A) (k : ℕ) → k < 1 → get_or (x ∷ []) k y ≡ y → x ≡ y
    only_at x y zero lt is = is
    only_at x y (suc k) lt is = absurd (omega arith)

  pub of_nothing : (x : A) → Contains [] x → ⊥
  of_nothing x has = omega (arith, has.1)

-- a bound on each place stays where a place within the bound is written
pub low_set : (lows : List ℕ) (cell place other bound : ℕ) → (other ≡ cell → place ≤ bound) →
    get_or lows other 0 ≤ bound → get_or (set lows cell place) other 0 ≤ bound
low_set [] cell place other bound new old = old
low_set (low ∷ lows) zero place zero bound new old = new refl
low_set (low ∷ lows) zero place (suc other) bound new old = old
low_set (low ∷ lows) (suc cell) place zero bound new old = old
low_set (low ∷ lows) (suc cell) place (suc other) bound new old =
    low_set lows cell place other bound (λ e. new (omega arith)) old

-- the greater of two places at each index
pub low_greater : (lows others : List ℕ) (cell : ℕ) → get_or (greater lows others) cell 0 ≡
    max (get_or lows cell 0) (get_or others cell 0)
low_greater [] others cell = omega arith
low_greater (low ∷ lows) [] cell = omega arith
low_greater (low ∷ lows) (other ∷ others) zero = refl
low_greater (low ∷ lows) (other ∷ others) (suc cell) = low_greater lows others cell

module _ {A : Type 0} where
  pub read_at : (xs : List A) (k : ℕ) (x d : A) → get_elem? xs k ≡ some x → get_or xs k d ≡ x
  read_at [] k x d at = absurd (some-ne-none x (sym at))
  read_at (y ∷ ys) zero x d at = some-injective y x at
  read_at (y ∷ ys) (suc k) x d at = read_at ys k x d at

pub head_drop : (shares : List ℕ) (k : ℕ) → head (drop k shares) ≡ get_or shares k 0
head_drop [] zero = refl
head_drop [] (suc k) = refl
head_drop (share ∷ shares) zero = refl
head_drop (share ∷ shares) (suc k) = head_drop shares k

-- the bits of one cell more
pub more_bits : (finals words : List ℕ) (at word bits : ℕ) → length finals + 1 ≡ at → get_or words at 0 ≡ word →
    bits ≡ word / 4294967296 → ((cell : ℕ) → cell < length finals →
    get_or finals cell 0 ≡ get_or words (cell + 1) 0 / 4294967296) → (cell : ℕ) →
    cell < length (finals ++ bits ∷ []) →
    get_or (finals ++ bits ∷ []) cell 0 ≡ get_or words (cell + 1) 0 / 4294967296
more_bits finals words at word bits count found is old cell lt = elim (cases_lt cell (length finals)) [
  | inl before ↦ get_or-append finals (bits ∷ []) 0 cell before ∙ old cell before
  | inr after ↦
      let last : cell ≡ length finals = omega (arith, lt, length-append finals (bits ∷ [])) in
      let next : cell + 1 ≡ at = omega (arith, last, count) in
      ap (λ (k : ℕ). get_or (finals ++ bits ∷ []) k 0) last ∙ (get_or-append_seam finals bits [] 0
      ∙ (is ∙ ap (λ (n : ℕ). n / 4294967296) (sym found ∙ ap (λ (k : ℕ). get_or words k 0) (sym next))))
]

pub length_zeros : (init : List ℕ) → length (zeros init) ≡ length init
length_zeros [] = refl
length_zeros (bits ∷ init) = ap suc (length_zeros init)
