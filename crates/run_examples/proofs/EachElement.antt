-- What holds of each element of a list, and of each two.
use Rattle.std.proofs.Common.{◌≡◌, Bool, true, false, List, [], ◌∷◌, map, sym, ap, ◌∙◌, inl, inr}
use Rattle.std.specs.List.{list_all, list_any, filter, AllByRecursion}
use Rattle.std.proofs.lemmas.Bool.{cases_Bool, both_ways, cond-true, cond-false, cond_both, and_parts, or_parts}
use Rattle.list_laws.proofs.Each.{each_kept}
use Rattle.lawful_runs.specs.Accesses.{EachPair}

pub pairs_filter : {X : Type 0} (R : X → X → Type 0) (p : X → Bool) (xs : List X) → EachPair R xs →
    EachPair R (filter p xs)
pairs_filter R p [] pairs = tt
pairs_filter R p (x ∷ xs) pairs =
    cond_both (p x) (x ∷ filter p xs) (filter p xs) (λ ys. EachPair R ys)
    (λ passes. (each_kept (R x) p xs pairs.0, pairs_filter R p xs pairs.1)) (λ fails. pairs_filter R p xs pairs.1)

-- what a test of a list's part says of the whole
pub part_passes : {X : Type 0} (here ok : X → Bool) (xs : List X) → list_all ok (filter here xs) ≡ true →
    AllByRecursion (λ x. here x ≡ true → ok x ≡ true) xs
part_passes here ok [] all = tt
part_passes here ok (x ∷ xs) all = elim (cases_Bool (here x)) [
  | inl is ↦
      let kept = sym (ap (λ ys. list_all ok ys) (cond-true (here x) (x ∷ filter here xs) (filter here xs) is)) ∙ all in
      let parts = and_parts (ok x) (list_all ok (filter here xs)) kept in
      ((λ _. parts.0), part_passes here ok xs parts.1)
  | inr other ↦
      let kept = sym (ap (λ ys. list_all ok ys) (cond-false (here x) (x ∷ filter here xs) (filter here xs) other))
      ∙ all in
      ((λ is. absurd (both_ways (here x) other is)), part_passes here ok xs kept)
]

pub all_made : {X Y : Type 0} (P : X → Type 0) (f : Y → X) → ((y : Y) → P (f y)) → (ys : List Y) →
    AllByRecursion P (map f ys)
all_made P f gives [] = tt
all_made P f gives (y ∷ ys) = (gives y, all_made P f gives ys)

pub pairs_made : {X Y : Type 0} (R : X → X → Type 0) (f : Y → X) → ((y z : Y) → R (f y) (f z)) → (ys : List Y) →
    EachPair R (map f ys)
pairs_made R f gives [] = tt
pairs_made R f gives (y ∷ ys) = (all_made (R (f y)) f (gives y) ys, pairs_made R f gives ys)

-- what a test that finds nothing in a list's part says of the whole
pub part_fails : {X : Type 0} (here found : X → Bool) (xs : List X) → list_any found (filter here xs) ≡ false →
    AllByRecursion (λ x. here x ≡ true → found x ≡ false) xs
part_fails here found [] none = tt
part_fails here found (x ∷ xs) none = elim (cases_Bool (here x)) [
  | inl is ↦
      let kept = sym (ap (λ ys. list_any found ys) (cond-true (here x) (x ∷ filter here xs) (filter here xs) is))
      ∙ none in
      let parts = or_parts (found x) (list_any found (filter here xs)) kept in
      ((λ _. parts.0), part_fails here found xs parts.1)
  | inr other ↦
      let kept = sym (ap (λ ys. list_any found ys) (cond-false (here x) (x ∷ filter here xs) (filter here xs) other))
      ∙ none in
      ((λ is. absurd (both_ways (here x) other is)), part_fails here found xs kept)
]

pub none_pass : {X Y : Type 0} (p : Y → Bool) (P : X → Type 0) (f : Y → X) → ((y : Y) → p y ≡ false → P (f y)) →
    (ys : List Y) → list_any p ys ≡ false → AllByRecursion P (map f ys)
none_pass p P f gives [] none = tt
none_pass p P f gives (y ∷ ys) none =
    let parts = or_parts (p y) (list_any p ys) none in (gives y parts.0, none_pass p P f gives ys parts.1)
