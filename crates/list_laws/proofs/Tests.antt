-- The elements that pass a test: whether any or all do, how many, which, and the first.
use Rattle.std.proofs.Common.{Bool, List, ◌∷◌, ◌≡◌, cond, ◌+◌, false, ◌++◌, [], ap, Some, None, ℕ, filter, not, ◌==◌}
use Rattle.std.proofs.Common.{refl, ◌&&◌, true, ◌∙◌, arith}
use Rattle.std.proofs.lemmas.List.Sums.{sum_by-cons, sum_by-append}
use Rattle.std.specs.List.{count_by, find, list_any, list_all}
use Rattle.std.specs.Prelude.{map, ◌||◌}

pub count_cons : {X : Type 0} (p : X → Bool) (x : X) (xs : List X) →
    count_by p (x ∷ xs) ≡ cond (p x) 1 0 + count_by p xs
count_cons p x xs = sum_by-cons (λ y. cond (p y) 1 0) x xs

pub found_joined : {X : Type 0} (test : X → Bool) (xs : List X) (y : X) → test y ≡ false →
    find test (xs ++ y ∷ []) ≡ find test xs
found_joined test [] y e = ap (λ b. cond b (Some y) None) e
found_joined test (x ∷ xs) y e = ap (λ o. cond (test x) (Some x) o) (found_joined test xs y e)

-- the list without a rank
abbrev pub without : ℕ → List ℕ → List ℕ
without n xs = filter (λ one. not (one == n)) xs

pub any_alike : {X : Type 0} (p q : X → Bool) → ((x : X) → p x ≡ q x) → (xs : List X) → list_any p xs ≡ list_any q xs
any_alike p q same [] = refl
any_alike p q same (x ∷ xs) = rw (same x, any_alike p q same xs) refl

pub any_map : {X Y : Type 0} (p : Y → Bool) (f : X → Y) (xs : List X) → list_any p (map f xs)
    ≡ list_any (λ x. p (f x)) xs
any_map p f [] = refl
any_map p f (x ∷ xs) = ap (λ b. p (f x) || b) (any_map p f xs)

pub any_filter : {X : Type 0} (p q : X → Bool) (xs : List X) → list_any p (filter q xs) ≡ list_any
    (λ x. q x && p x) xs
any_filter p q [] = refl
any_filter p q (x ∷ xs) =
    elim (q x) as (λ b. list_any p (cond b (x ∷ filter q xs) (filter q xs)) ≡ (b && p x || list_any
    (λ y. q y && p y) xs)) [
      | true ↦ ap (λ b. p x || b) (any_filter p q xs)
      | false ↦ any_filter p q xs
    ]

pub one_more : (names : List ℕ) (win other : ℕ) → count_by (λ name. name == other) (names ++ win ∷ [])
    ≡ count_by (λ name. name == other) names + cond (win == other) 1 0
one_more names win other =
    sum_by-append (λ name. cond (name == other) 1 0) names (win ∷ [])
    ∙ ap (λ n. count_by (λ name. name == other) names + n) (sum_by-cons (λ name. cond (name == other) 1 0) win
    [] ∙ omega arith)

pub all_alike : (p r : ℕ → Bool) → ((k : ℕ) → p k ≡ r k) → (ks : List ℕ) → list_all p ks ≡ list_all r ks
all_alike p r same [] = refl
all_alike p r same (k ∷ ks) = rw (same k, all_alike p r same ks) refl

pub count_append : {X : Type 0} (p : X → Bool) (xs ys : List X) → count_by p (xs ++ ys) ≡ count_by p xs + count_by p ys
count_append p xs ys = sum_by-append (λ x. cond (p x) 1 0) xs ys
