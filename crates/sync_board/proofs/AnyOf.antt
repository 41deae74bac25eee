-- What a test finds in a list, and what filters keep of it.
use Rattle.std.proofs.Common.{◌≡◌, ℕ, zero, suc, ◌+◌, ◌-◌, ◌≤◌, Bool, true, false, ◌&&◌, ◌||◌, cond, List, [], ◌∷◌}
use Rattle.std.proofs.Common.{◌++◌, map, refl, ap, sym, ◌∙◌, arith}
use Rattle.std.specs.List.{filter, list_any}
use Rattle.std.proofs.lemmas.List.Folds.{list_any-append}
use Rattle.list_laws.proofs.Truths.{or_false}
use Rattle.call_rules.specs.Pieces.{numbers_from}

-- one more, at the end
pub any_more : {X : Type 0} (test : X → Bool) (xs : List X) (x : X) → list_any test (xs ++ x ∷ []) ≡
    (list_any test xs || test x)
any_more test xs x = list_any-append test xs (x ∷ []) ∙ ap (λ b. list_any test xs || b) (or_false (test x))

pub filter_both : {X : Type 0} (p r : X → Bool) (xs : List X) → filter p (filter r xs) ≡ filter (λ x. r x && p x) xs
filter_both p r [] = refl
filter_both p r (x ∷ xs) =
    elim (r x) as (λ b. filter p (cond b (x ∷ filter r xs) (filter r xs)) ≡ cond (b && p x)
    (x ∷ filter (λ y. r y && p y) xs) (filter (λ y. r y && p y) xs)) [
      | true ↦ ap (λ ys. cond (p x) (x ∷ ys) ys) (filter_both p r xs)
      | false ↦ filter_both p r xs
    ]

pub filter_alike : {X : Type 0} (p q : X → Bool) → ((x : X) → p x ≡ q x) → (xs : List X) → filter p xs ≡ filter q xs
filter_alike p q same [] = refl
filter_alike p q same (x ∷ xs) = rw (same x, filter_alike p q same xs) refl

-- a second filter that keeps all that the first does
pub filter_keeps : {X : Type 0} (p r : X → Bool) → ((x : X) → p x ≡ true → r x ≡ true) → (xs : List X) →
    filter p (filter r xs) ≡ filter p xs
filter_keeps p r so xs = filter_both p r xs ∙ filter_alike (λ x. r x && p x) p (λ x. both (r x) (p x) (so x)) xs
  where
    both : (a b : Bool) → (b ≡ true → a ≡ true) → (a && b) ≡ b
    both true b so = refl
    both false true so = so refl
    both false false so = refl

-- two filters, in either order
pub filter_swap : {X : Type 0} (p r : X → Bool) (xs : List X) → filter p (filter r xs) ≡ filter r (filter p xs)
filter_swap p r xs =
    filter_both p r xs ∙ (filter_alike (λ x. r x && p x) (λ x. p x && r x) (λ x. swap (r x) (p x)) xs
    ∙ sym (filter_both r p xs))
  where
    swap : (a b : Bool) → (a && b) ≡ (b && a)
    swap true true = refl
    swap true false = refl
    swap false true = refl
    swap false false = refl

-- a filter of what a function gives
pub filter_map_swap : {X Y : Type 0} (f : X → Y) (p : Y → Bool) (xs : List X) →
    map f (filter (λ x. p (f x)) xs) ≡ filter p (map f xs)
filter_map_swap f p [] = refl
filter_map_swap f p (x ∷ xs) =
    elim (p (f x)) as (λ b. map f (cond b (x ∷ filter (λ y. p (f y)) xs) (filter (λ y. p (f y)) xs)) ≡ cond b
    (f x ∷ filter p (map f xs)) (filter p (map f xs))) [
      | true ↦ ap (λ ys. f x ∷ ys) (filter_map_swap f p xs)
      | false ↦ filter_map_swap f p xs
    ]

pub numbers_more : (first count : ℕ) → numbers_from first (count + 1) ≡ numbers_from first count ++ (first + count) ∷ []
numbers_more first zero = let e : first + 0 ≡ first = omega arith in rw e refl
numbers_more first (suc count) =
    let e : first + suc count ≡ first + 1 + count = omega arith in
    let f : suc count + 1 ≡ suc (count + 1) = omega arith in
    rw (f, e) (ap (λ xs. first ∷ xs) (numbers_more (first + 1) count))

pub numbers_up_to : (first at : ℕ) → first ≤ at → numbers_from first (at + 1 - first) ≡ numbers_from first
    (at - first) ++ at ∷ []
numbers_up_to first at low =
    let count : at + 1 - first ≡ (at - first) + 1 = omega arith in
    let last : first + (at - first) ≡ at = omega arith in
    rw count (rw last at (numbers_more first (at - first)))
