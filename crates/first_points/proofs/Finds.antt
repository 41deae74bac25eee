-- The first element of a list that passes a test.
use Rattle.std.proofs.Common.{◌≡◌, ℕ, zero, suc, ◌≤◌, ◌⊎◌, inl, inr, Bool, true, false, List, [], ◌∷◌, ◌++◌}
use Rattle.std.proofs.Common.{Some, None, length, refl, ap, sym, subst, ◌∙◌, arith}
use Rattle.std.specs.Prelude.{not, cond, drop, ◌&&◌}
use Rattle.std.specs.List.{find, AllWithin}
use Rattle.std.specs.List.Sorted.{IsPartitionPoint}
use Rattle.std.proofs.lemmas.Bool.{cases_Bool, cond-true, cond-false, false≢true}
use Rattle.list_laws.proofs.Members.{In, here, there, append_in}

-- ---- lists in order

-- the relation holds of each element and each one after it
abbrev pub Ordered : {X : Type 0} → (X → X → Type 0) → List X → Type 0
Ordered R [] = Unit {0}
Ordered {X} R (x ∷ xs) = ((later : X) → In later xs → R x later) × Ordered R xs

pub ordered_joined : {X : Type 0} (R : X → X → Type 0) (xs ys : List X) → Ordered R xs → Ordered R ys →
    ((x y : X) → In x xs → In y ys → R x y) → Ordered R (xs ++ ys)
ordered_joined R [] ys first second between = second
ordered_joined R (x ∷ xs) ys first second between = (
  λ later m. elim (append_in xs m) [ inl a ↦ first.0 later a | inr b ↦ between x later here b ],
  ordered_joined R xs ys first.1 second (λ z y m. between z y (there m)),
)

-- ---- what is found

-- what is found is there, and passes
pub found_in : {X : Type 0} (p : X → Bool) (xs : List X) {y : X} → find p xs ≡ Some y → In y xs × (p y ≡ true)
found_in p [] e = absurd (cc e)
found_in p (x ∷ xs) {y} e = elim (cases_Bool (p x)) [
  | inl passes ↦
      let same : Some x ≡ Some y = sym (cond-true (p x) (Some x) (find p xs) passes) ∙ e in
      let is : x ≡ y = cc same in
      (subst (λ z. In z (x ∷ xs)) is here, subst (λ z. p z ≡ true) is passes)
  | inr fails ↦
      let rest = found_in p xs (sym (cond-false (p x) (Some x) (find p xs) fails) ∙ e) in (there rest.0, rest.1)
]

pub none_found : {X : Type 0} (p : X → Bool) (xs : List X) → ((x : X) → In x xs → p x ≡ false) → find p xs ≡ None
none_found p [] fails = refl
none_found p (x ∷ xs) fails =
    cond-false (p x) (Some x) (find p xs) (fails x here) ∙ none_found p xs (λ y m. fails y (there m))

-- the first that passes, where this one passes
pub record IsFirst {X : Type 0} (R : X → X → Type 0) (p : X → Bool) (xs : List X) (x : X) : Type 0 where
  pub first : X
  pub found : find p xs ≡ Some first
  pub member : In first xs
  pub passes : p first ≡ true
  pub order : (first ≡ x) ⊎ R first x

which_first : {X : Type 0} (R : X → X → Type 0) (y x : X) (ys : List X) → ((later : X) → In later ys → R y later) →
    In x (y ∷ ys) → (y ≡ x) ⊎ R y x
which_first R y x ys before here = inl refl
which_first R y x ys before (there m) = inr (before x m)

later_first : {X : Type 0} (R : X → X → Type 0) (p : X → Bool) (y x : X) (ys : List X) → p x ≡ true → p y ≡ false →
    (In x ys → IsFirst R p ys x) → In x (y ∷ ys) → IsFirst R p (y ∷ ys) x
later_first R p y x ys passes fails rest here = absurd (false≢true (sym fails ∙ passes))
later_first R p y x ys passes fails rest (there m) =
    let next = rest m in
    record {
      first = next.first;
      found = cond-false (p y) (Some y) (find p ys) fails ∙ next.found;
      member = there next.member;
      passes = next.passes;
      order = next.order;
    }

-- where one of a list in order passes, the first that passes is it or stands before it
pub first_found : {X : Type 0} (R : X → X → Type 0) (p : X → Bool) (xs : List X) (x : X) → Ordered R xs → In x xs →
    p x ≡ true → IsFirst R p xs x
first_found R p [] x ordered m e = elim m [ ]
first_found R p (y ∷ ys) x ordered m e = elim (cases_Bool (p y)) [
  | inl passes ↦ record {
    first = y;
    found = cond-true (p y) (Some y) (find p ys) passes;
    member = here;
    passes = passes;
    order = which_first R y x ys ordered.0 m;
  }
  | inr fails ↦ later_first R p y x ys e fails (λ k. first_found R p ys x ordered.1 k e) m
]

-- two tests that agree on the elements find the same
pub same_found : {X : Type 0} (p q : X → Bool) (xs : List X) → ((x : X) → In x xs → p x ≡ q x) →
    find p xs ≡ find q xs
same_found p q [] same = refl
same_found p q (x ∷ xs) same =
    let rest = same_found p q xs (λ y m. same y (there m)) in
    (λ i. cond (same x here i) (Some x) (rest i))

-- ---- a search that starts late

late_found : {X : Type 0} (early late t : X → Bool) (xs : List X) → ((x : X) → late x ≡ not (early x)) →
    AllWithin (λ x. early x ≡ false) xs 0 (length xs) → find (λ x. late x && t x) xs ≡ find t xs
late_found early late t [] is none = refl
late_found early late t (x ∷ xs) is none =
    let passes : late x ≡ true = is x ∙ ap not (none 0 x (omega arith) (omega arith)) in
    let rest = late_found early late t xs is
    (λ k d low high. none (suc k) d (omega arith) (omega (arith, high))) in
    (λ i. cond (passes i && t x) (Some x) (rest i))

-- the elements that a test parts from the later ones can be left out of a search among the later ones
pub found_from : {X : Type 0} (early late t : X → Bool) (xs : List X) (from : ℕ) →
    ((x : X) → late x ≡ not (early x)) →
    IsPartitionPoint (λ x. early x ≡ true) (λ x. early x ≡ false) xs from → from ≤ length xs →
    find (λ x. late x && t x) xs ≡ find t (drop from xs)
found_from early late t [] zero is point bound = refl
found_from early late t [] (suc from) is point bound = absurd (omega arith)
found_from early late t (x ∷ xs) zero is point bound = late_found early late t (x ∷ xs) is point.1
found_from early late t (x ∷ xs) (suc from) is point bound =
    let fails : late x ≡ false = is x ∙ ap not (point.0 0 x (omega arith) (omega arith)) in
    ap (λ b. cond (b && t x) (Some x) (find (λ y. late y && t y) xs)) fails
    ∙ found_from early late t xs from is (
      λ k d low high. point.0 (suc k) d (omega arith) (omega (arith, high)),
      λ k d low high. point.1 (suc k) d (omega (arith, low)) (omega (arith, high)),
    ) (omega (arith, bound))
