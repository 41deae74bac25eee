-- What is found in a list to which one element is added, or of which some are kept.
use Rattle.std.proofs.Common.{◌≡◌, Bool, true, false, cond, not, List, [], ◌∷◌, ◌++◌, Some, None, refl, ap, sym}
use Rattle.std.proofs.Common.{◌∙◌}
use Rattle.std.specs.List.{filter, find}

pub found_last : {X : Type 0} (p : X → Bool) (xs : List X) (x : X) → find p xs ≡ None → p x ≡ true →
    find p (xs ++ x ∷ []) ≡ Some x
found_last {X} p [] x none passes = ap (λ b. cond b (Some x) None) passes
found_last {X} p (y ∷ ys) x none passes = by_test (p y) none (λ h. found_last p ys x h passes)
  where
    by_test : (b : Bool) → cond b (Some y) (find p ys) ≡ None → (find p ys ≡ None → find p (ys ++ x ∷ []) ≡ Some x) →
        cond b (Some y) (find p (ys ++ x ∷ [])) ≡ Some x
    by_test true e rest = absurd (cc e)
    by_test false e rest = rest e

pub found_kept : {X : Type 0} (p q : X → Bool) (xs : List X) → ((x : X) → q x ≡ false → p x ≡ false) →
    find p (filter q xs) ≡ find p xs
found_kept p q [] apart = refl
found_kept {X} p q (x ∷ xs) apart = by_test (q x) refl (found_kept p q xs apart)
  where
    by_test : (b : Bool) → q x ≡ b → find p (filter q xs) ≡ find p xs →
        find p (cond b (x ∷ filter q xs) (filter q xs)) ≡ cond (p x) (Some x) (find p xs)
    by_test true is rest = ap (λ o. cond (p x) (Some x) o) rest
    by_test false is rest = rest ∙ sym (ap (λ b. cond b (Some x) (find p xs)) (apart x is))

pub found_none : {X : Type 0} (p : X → Bool) (xs : List X) → find p (filter (λ x. not (p x)) xs) ≡ None
found_none p [] = refl
found_none {X} p (x ∷ xs) = by_test (p x) refl (found_none p xs)
  where
    by_test : (b : Bool) → p x ≡ b → find p (filter (λ y. not (p y)) xs) ≡ None →
        find p (cond (not b) (x ∷ filter (λ y. not (p y)) xs) (filter (λ y. not (p y)) xs)) ≡ None
    by_test true is rest = rest
    by_test false is rest = ap (λ b. cond b (Some x) (find p (filter (λ y. not (p y)) xs))) is ∙ rest
