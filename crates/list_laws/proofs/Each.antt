-- What holds of each element of a list.
use Rattle.std.proofs.Common.{List, ◌++◌, [], ◌∷◌, Bool, ◌≡◌, Some, true, cond, subst, ap, sym, ◌∙◌, false, refl, ℕ}
use Rattle.std.proofs.Common.{zero, suc, take, drop, get_or, map, ◌+◌}
use Rattle.std.proofs.lemmas.Bool.{cond_both}
use Rattle.std.specs.List.{AllByRecursion, filter, find}
use Rattle.std.specs.Prelude.{slice_get, remove}

-- the same fact of each element of both lists
pub each_append : {X : Type 0} (P : X → Type 0) (xs ys : List X) → AllByRecursion P xs → AllByRecursion P ys →
    AllByRecursion P (xs ++ ys)
each_append P [] ys a b = b
each_append P (x ∷ xs) ys a b = (a.0, each_append P xs ys a.1 b)

-- what holds of the elements of a list holds of those that a test leaves
pub each_kept : {X : Type 0} (P : X → Type 0) (p : X → Bool) (xs : List X) → AllByRecursion P xs →
    AllByRecursion P (filter p xs)
each_kept P p [] all = tt
each_kept P p (x ∷ xs) all =
    cond_both (p x) (x ∷ filter p xs) (filter p xs) (λ ys. AllByRecursion P ys)
    (λ passes. (all.0, each_kept P p xs all.1)) (λ fails. each_kept P p xs all.1)

-- one fact of each element follows from another
pub each_weaker : {X : Type 0} (P Q : X → Type 0) → ((x : X) → P x → Q x) → (xs : List X) → AllByRecursion P xs →
    AllByRecursion Q xs
each_weaker P Q h [] all = tt
each_weaker P Q h (x ∷ xs) all = (h x all.0, each_weaker P Q h xs all.1)

-- one fact of each element follows from two others
pub each_with : {X : Type 0} (P Q R : X → Type 0) → ((x : X) → P x → Q x → R x) → (xs : List X) →
    AllByRecursion P xs → AllByRecursion Q xs → AllByRecursion R xs
each_with P Q R h [] all both = tt
each_with P Q R h (x ∷ xs) all both = (h x all.0 both.0, each_with P Q R h xs all.1 both.1)

-- what is found passes, and has what each element has
pub found_has : {X : Type 0} (P : X → Type 0) (test : X → Bool) (xs : List X) (x : X) → AllByRecursion P xs →
    find test xs ≡ Some x → P x × (test x ≡ true)
found_has P test [] x all e = absurd (cc e)
found_has {X} P test (y ∷ ys) x all e =
    elim (test y) as (λ b. test y ≡ b → cond b (Some y) (find test ys) ≡ Some x → P x × (test x ≡ true)) [
      | true ↦ λ t k. let same : y ≡ x = cc k in (subst P same all.0, ap test (sym same) ∙ t)
      | false ↦ λ t k. found_has P test ys x all.1 k
    ] refl e

-- the element at an index has what each element has
pub each_at : {X : Type 0} (P : X → Type 0) (xs : List X) (i : ℕ) (x : X) → AllByRecursion P xs →
    slice_get xs i ≡ Some x → P x
each_at P [] i x h e = absurd (cc e)
each_at P (y ∷ ys) zero x h e = let is : y ≡ x = cc e in subst P is h.0
each_at P (y ∷ ys) (suc i) x h e = each_at P ys i x h.1 e

pub each_front : {X : Type 0} (P : X → Type 0) (xs ys : List X) → AllByRecursion P (xs ++ ys) → AllByRecursion P xs
each_front P [] ys h = tt
each_front P (x ∷ xs) ys h = (h.0, each_front P xs ys h.1)

pub each_back : {X : Type 0} (P : X → Type 0) (xs ys : List X) → AllByRecursion P (xs ++ ys) → AllByRecursion P ys
each_back P [] ys h = h
each_back P (x ∷ xs) ys h = each_back P xs ys h.1

pub each_take : {X : Type 0} (P : X → Type 0) (n : ℕ) (xs : List X) → AllByRecursion P xs → AllByRecursion P (take n xs)
each_take P zero xs h = tt
each_take P (suc n) [] h = tt
each_take P (suc n) (x ∷ xs) h = (h.0, each_take P n xs h.1)

pub each_drop : {X : Type 0} (P : X → Type 0) (n : ℕ) (xs : List X) → AllByRecursion P xs → AllByRecursion P (drop n xs)
each_drop P zero xs h = h
each_drop P (suc n) [] h = tt
each_drop P (suc n) (x ∷ xs) h = each_drop P n xs h.1

-- what is left after one is removed
pub each_removed : {X : Type 0} (P : X → Type 0) (xs : List X) (i : ℕ) → AllByRecursion P xs →
    AllByRecursion P (remove xs i)
each_removed P xs i h = each_append P (take i xs) (drop (suc i) xs) (each_take P i xs h) (each_drop P (suc i) xs h)

pub each_get_or : {X : Type 0} (P : X → Type 0) (xs : List X) (i : ℕ) (d : X) → P d → AllByRecursion P xs →
    P (get_or xs i d)
each_get_or P [] i d default h = default
each_get_or P (y ∷ ys) zero d default h = h.0
each_get_or P (y ∷ ys) (suc i) d default h = each_get_or P ys i d default h.1

-- pairs of what a list is mapped to
pub each_unmapped : {X Y : Type 0} (P : Y → Type 0) (f : X → Y) (xs : List X) → AllByRecursion P (map f xs) →
    AllByRecursion (λ x. P (f x)) xs
each_unmapped P f [] all = tt
each_unmapped P f (x ∷ xs) all = (all.0, each_unmapped P f xs all.1)

-- what holds of each element and its place, where the first has this place
unfoldable pub AllFrom : {X : Type 0} → (ℕ → X → Type 0) → ℕ → List X → Type 0
AllFrom P at [] = Unit {0}
AllFrom P at (x ∷ xs) = P at x × AllFrom P (at + 1) xs
