-- Lists whose numbers rise are equal where they have the same elements.
use Rattle.std.proofs.Common.{◌≡◌, ℕ, ◌<◌, inl, inr, Bool, true, false, cond, List, [], ◌∷◌, refl, sym, ◌∙◌, ap, arith}
use Rattle.std.specs.List.{AllByRecursion, filter}
use Rattle.list_laws.proofs.Members.{Among}
use Rattle.lawful_runs.specs.Accesses.{EachPair}
use Rattle.rank_laws.proofs.Lists.{among_each}

-- the element is the first of both, since each list has nothing lower
same_first : {X : Type 0} (number : X → ℕ) (x y : X) (xs ys : List X) → AllByRecursion (λ z. number x < number z) xs →
    AllByRecursion (λ z. number y < number z) ys → Among x (y ∷ ys) → Among y (x ∷ xs) → y ≡ x
same_first number x y xs ys above more (inl e) there = e
same_first number x y xs ys above more (inr h) (inl e) = sym e
same_first number x y xs ys above more (inr h) (inr k) =
    let one = among_each (λ z. number y < number z) x ys more h in
    let other = among_each (λ z. number x < number z) y xs above k in absurd (omega arith)

-- an element that is above the first is among the rest
among_above : {X : Type 0} (number : X → ℕ) (x z : X) (xs : List X) → number x < number z → Among z (x ∷ xs) →
    Among z xs
among_above number x z xs less (inl e) = let same = ap number e in absurd (omega arith)
among_above number x z xs less (inr h) = h

among_passing : {X : Type 0} (test : X → Bool) (x z : X) (xs : List X) → test x ≡ false → test z ≡ true →
    Among z (x ∷ xs) → Among z xs
among_passing test x z xs off on (inl e) = absurd (cc (sym off ∙ ap test e ∙ on))
among_passing test x z xs off on (inr h) = h

-- the elements of a rising list that pass a test are those of another one
pub filter_is : {X : Type 0} (number : X → ℕ) (test : X → Bool) (xs ys : List X) →
    EachPair (λ a b. number a < number b) xs → EachPair (λ a b. number a < number b) ys →
    ((x : X) → Among x ys → Among x xs × (test x ≡ true)) → ((x : X) → Among x xs → test x ≡ true → Among x ys) →
    filter test xs ≡ ys
filter_is number test [] [] rises also from to = refl
filter_is number test [] (y ∷ ys) rises also from to = absurd (from y (inl refl)).0
filter_is {X} number test (x ∷ xs) [] rises also from to =
    elim (test x) as (λ b. test x ≡ b → cond b (x ∷ filter test xs) (filter test xs) ≡ []) [
      | true ↦ λ e. absurd (to x (inl refl) e)
      | false ↦ λ e. filter_is number test xs [] rises.1 tt (λ z among. absurd among)
          (λ z among passes. to z (inr among) passes)
    ] refl
filter_is {X} number test (x ∷ xs) (y ∷ ys) rises also from to =
    elim (test x) as (λ b. test x ≡ b → cond b (x ∷ filter test xs) (filter test xs) ≡ y ∷ ys) [
      | true ↦ λ e.
          let first : y ≡ x = same_first number x y xs ys rises.0 also.0 (to x (inl refl) e) (from y (inl refl)).0 in
          let same = ap number first in
          let rest : filter test xs ≡ ys = filter_is number test xs ys rises.1 also.1
          (λ z among.
          let less = among_each (λ w. number y < number w) z ys also.0 among in
          let there = from z (inr among) in (among_above number x z xs (omega arith) there.0, there.1))
          (λ z among passes.
          let less = among_each (λ w. number x < number w) z xs rises.0 among in
          among_above number y z ys (omega arith) (to z (inr among) passes)) in
          ap (λ h. h ∷ filter test xs) (sym first) ∙ ap (λ (t : List X). y ∷ t) rest
      | false ↦ λ e. filter_is number test xs (y ∷ ys) rises.1 also
          (λ z among. let there = from z among in (among_passing test x z xs e there.1 there.0, there.1))
          (λ z among passes. to z (inr among) passes)
    ] refl
