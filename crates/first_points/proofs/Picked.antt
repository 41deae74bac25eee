-- Searches in a list of those elements that pass a test.
use Rattle.std.proofs.Common.{◌≡◌, ℕ, zero, suc, ◌<◌, inl, inr, Bool, true, false, List, [], ◌∷◌}
use Rattle.std.proofs.Common.{Option, Some, None, refl, ap, sym, ◌∙◌, arith}
use Rattle.std.specs.Prelude.{◌&&◌, ◌||◌, cond, drop, nat_lt, slice_get}
use Rattle.std.specs.List.{find, filter}
use Rattle.std.proofs.lemmas.Bool.{cases_Bool, ltb-true, lt-ltb}
use Rattle.list_laws.proofs.Members.{In, contains_in, filter_in, in_contains}
use Rattle.list_laws.proofs.Truths.{and_false}
use Rattle.rank_records.specs.declared.kept.KeptStep.{KeptStep}
use Rattle.first_points.specs.KeptPoints.{AreAscending}
use Rattle.first_points.specs.Keys.{earlier_of}
use Rattle.first_points.proofs.Finds.{found_in}

and_true : (b : Bool) → (b && true) ≡ b
and_true true = refl
and_true false = refl

-- ---- the first that passes two tests

-- the first of those that pass is the first that passes both
pub find_filter : {X : Type 0} (q p : X → Bool) (xs : List X) → find q (filter p xs) ≡ find (λ x. q x && p x) xs
find_filter q p [] = refl
find_filter q p (x ∷ xs) = by_test (p x) (find_filter q p xs)
  where
    by_test : (b : Bool) → find q (filter p xs) ≡ find (λ y. q y && p y) xs →
        find q (cond b (x ∷ filter p xs) (filter p xs)) ≡ cond (q x && b) (Some x) (find (λ y. q y && p y) xs)
    by_test true rest = λ i. cond (sym (and_true (q x)) i) (Some x) (rest i)
    by_test false rest = rest ∙ ap (λ b. cond b (Some x) (find (λ y. q y && p y) xs)) (sym (and_false (q x)))

-- the first that passes, where all from a place on pass
pub first_left : {X : Type 0} (xs : List X) (from : ℕ) → find (λ x. true) (drop from xs) ≡ slice_get xs from
first_left [] zero = refl
first_left [] (suc from) = refl
first_left (x ∷ xs) zero = refl
first_left (x ∷ xs) (suc from) = first_left xs from

pub find_and_true : {X : Type 0} (q : X → Bool) (xs : List X) → find (λ x. q x && true) xs ≡ find q xs
find_and_true q xs = λ i. find (λ x. and_true (q x) i) xs

-- ---- steps in order

later_index : (steps : List KeptStep) (x y : KeptStep) → AreAscending (x ∷ steps) → In y steps →
    x.id.index < y.id.index
later_index steps x y ascending m = (ascending.0 y (in_contains m)).1

-- what passes stands in the order of the list
pub ascending_filter : (p : KeptStep → Bool) (steps : List KeptStep) → AreAscending steps →
    AreAscending (filter p steps)
ascending_filter p [] ascending = tt
ascending_filter p (x ∷ steps) ascending = by_test (p x) (ascending_filter p steps ascending.1)
  where
    by_test : (b : Bool) → AreAscending (filter p steps) → AreAscending (cond b (x ∷ filter p steps) (filter p steps))
    by_test true rest = (
      λ later m. ascending.0 later (in_contains ((filter_in p steps (contains_in (filter p steps) later m)).0)),
      rest,
    )
    by_test false rest = rest

-- ---- the earlier of two

same_if : {X : Type 0} (b : Bool) (x : X) → x ≡ cond b x x
same_if true x = refl
same_if false x = refl

not_below : (m n : ℕ) → m < n → nat_lt n m ≡ false
not_below m n up = elim (cases_Bool (nat_lt n m)) [
  | inl below ↦ let other : n < m = ltb-true n m below in absurd (omega (arith, up, other))
  | inr above ↦ above
]

-- the first that passes one of two tests is the earlier of the first that passes each
earlier_more : (x : KeptStep) (a b c : Bool) (f g rest : Option KeptStep) →
    ((y : KeptStep) → f ≡ Some y → x.id.index < y.id.index) →
    ((y : KeptStep) → g ≡ Some y → x.id.index < y.id.index) → rest ≡ earlier_of f g →
    cond (c && (a || b)) (Some x) rest ≡ earlier_of (cond (c && a) (Some x) f) (cond (c && b) (Some x) g)
earlier_more x a b false f g rest first second same = same
earlier_more x true true true f g rest first second same = same_if (nat_lt x.id.index x.id.index) (Some x)
earlier_more x true false true f None rest first second same = refl
earlier_more x true false true f (Some y) rest first second same =
    ap (λ b. cond b (Some y) (Some x)) (sym (not_below x.id.index y.id.index (second y refl)))
earlier_more x false true true None g rest first second same = refl
earlier_more x false true true (Some y) g rest first second same =
    ap (λ b. cond b (Some x) (Some y)) (sym (lt-ltb x.id.index y.id.index (first y refl)))
earlier_more x false false true f g rest first second same = same

pub earlier_found : (q p first second : KeptStep → Bool) (steps : List KeptStep) →
    ((k : KeptStep) → p k ≡ (first k || second k)) → AreAscending steps →
    find (λ k. q k && p k) steps
    ≡ earlier_of (find (λ k. q k && first k) steps) (find (λ k. q k && second k) steps)
earlier_found q p first second [] same ascending = refl
earlier_found q p first second (x ∷ steps) same ascending =
    ap (λ b. cond (q x && b) (Some x) (find (λ k. q k && p k) steps)) (same x)
    ∙ earlier_more x (first x) (second x) (q x) (find (λ k. q k && first k) steps)
    (find (λ k. q k && second k) steps) (find (λ k. q k && p k) steps)
    (λ y e. later_index steps x y ascending ((found_in (λ k. q k && first k) steps e).0))
    (λ y e. later_index steps x y ascending ((found_in (λ k. q k && second k) steps e).0))
    (earlier_found q p first second steps same ascending.1)
