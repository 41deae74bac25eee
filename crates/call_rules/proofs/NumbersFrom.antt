-- Numbers that follow each other, and tests of them.
use Rattle.std.proofs.Common.{ℕ, Bool, ◌≤◌, ◌<◌, ◌+◌, ◌≡◌, false, zero, arith, suc, ⊎_elim, ap, sym, ◌∙◌, true, refl}
use Rattle.std.proofs.Common.{length, ◌++◌, ◌∷◌, [], List, ◌||◌, Some, inl, subst, inr}
use Rattle.std.proofs.lemmas.Bool.{and_left, and_right, cases_eq, true≢false, and_from, or_right}
use Rattle.std.specs.List.{list_all, list_any}
use Rattle.std.specs.Prelude.{slice_get, map}
use Rattle.list_laws.proofs.Members.{In, here, there}
use Rattle.call_rules.specs.Pieces.{numbers_from}

-- and fails where it fails of one
pub not_all_numbers : (test : ℕ → Bool) (first count k : ℕ) → first ≤ k → k < first + count → test k ≡ false →
    list_all test (numbers_from first count) ≡ false
not_all_numbers test first zero k low high fails = absurd (omega arith)
not_all_numbers test first (suc count) k low high fails = ⊎_elim
    (λ e. and_left (test first) (list_all test (numbers_from (first + 1) count)) (ap test (sym e) ∙ fails))
    (λ ne. and_right (test first) (list_all test (numbers_from (first + 1) count))
    (not_all_numbers test (first + 1) count k (omega arith) (omega arith) fails))
    (cases_eq k first)

-- a test that all numbers pass
pub all_at_number : (test : ℕ → Bool) (lo len address : ℕ) → list_all test (numbers_from lo len) ≡ true → lo ≤ address →
    address < lo + len → test address ≡ true
all_at_number test lo len address all low high = split (test address) refl
  where
    split : (b : Bool) → test address ≡ b → test address ≡ true
    split true e = e
    split false e = absurd (true≢false (sym all ∙ not_all_numbers test lo len address low high e))

pub numbers_length : (first count : ℕ) → length (numbers_from first count) ≡ count
numbers_length first zero = refl
numbers_length first (suc count) = ap suc (numbers_length (first + 1) count)

pub numbers_last : (first n : ℕ) → numbers_from first (suc n) ≡ numbers_from first n ++ (first + n) ∷ []
numbers_last first zero = let e : first ≡ first + 0 = omega arith in ap (λ (k : ℕ). k ∷ []) e
numbers_last first (suc n) =
    let e : first + 1 + n ≡ first + suc n = omega arith in
    ap (λ (ks : List ℕ). first ∷ ks)
    (numbers_last (first + 1) n ∙ ap (λ (k : ℕ). numbers_from (first + 1) n ++ k ∷ []) e)

-- a test of numbers from one on holds of all where it holds of each
pub all_numbers : (p : ℕ → Bool) (low len : ℕ) → ((a : ℕ) → low ≤ a → a < low + len → p a ≡ true)
    → list_all p (numbers_from low len) ≡ true
all_numbers p low zero h = refl
all_numbers p low (suc len) h =
    and_from _ _ (h low (omega arith) (omega arith))
    (all_numbers p (low + 1) len (λ a le lt. h a (omega arith) (omega arith)))

pub any_numbers : (p q : ℕ → Bool) (first count : ℕ) → ((r : ℕ) → first ≤ r → r < first + count → p r ≡ q r) →
    list_any p (numbers_from first count) ≡ list_any q (numbers_from first count)
any_numbers p q first zero same = refl
any_numbers p q first (suc count) same =
    let here : p first ≡ q first = same first (omega arith) (omega arith) in
    let later : list_any p (numbers_from (first + 1) count) ≡ list_any q (numbers_from (first + 1) count) =
    any_numbers p q (first + 1) count (λ r low high. same r (omega arith) (omega arith)) in
    cc

pub no_number : (p : ℕ → Bool) (first count : ℕ) → ((r : ℕ) → first ≤ r → r < first + count → p r ≡ false) →
    list_any p (numbers_from first count) ≡ false
no_number p first zero none = refl
no_number p first (suc count) none =
    let here : p first ≡ false = none first (omega arith) (omega arith) in
    let later : list_any p (numbers_from (first + 1) count) ≡ false = no_number p (first + 1) count
    (λ r low high. none r (omega arith) (omega arith)) in
    rw (here, later) refl

pub some_number : (test : ℕ → Bool) (first count k : ℕ) → first ≤ k → k < first + count → test k ≡ true →
    list_any test (numbers_from first count) ≡ true
some_number test first zero k low high found = absurd (omega arith)
some_number test first (suc count) k low high found = ⊎_elim
    (λ e. ap (λ b. b || list_any test (numbers_from (first + 1) count)) (ap test (sym e) ∙ found))
    (λ ne. or_right (test first) (list_any test (numbers_from (first + 1) count))
    (some_number test (first + 1) count k (omega arith) (omega arith) found))
    (cases_eq k first)

pub got_number : {X : Type 0} (f : ℕ → X) (first count k : ℕ) → k < count →
    slice_get (map f (numbers_from first count)) k ≡ Some (f (first + k))
got_number f first zero k below = absurd (omega arith)
got_number f first (suc count) zero below = let e : first ≡ first + 0 = omega arith in ap (λ n. Some (f n)) e
got_number f first (suc count) (suc k) below =
    let e : first + 1 + k ≡ first + suc k = omega arith in
    got_number f (first + 1) count k (omega (arith, below)) ∙ ap (λ n. Some (f n)) e

pub in_numbers : (first count n : ℕ) → first ≤ n → n < first + count → In n (numbers_from first count)
in_numbers first zero n low high = absurd (omega arith)
in_numbers first (suc count) n low high = elim (cases_eq n first) [
  | inl same ↦ subst (λ m. In m (first ∷ numbers_from (first + 1) count)) (sym same) here
  | inr other ↦ there (in_numbers (first + 1) count n (omega (arith, low, other)) (omega (arith, high)))
]
