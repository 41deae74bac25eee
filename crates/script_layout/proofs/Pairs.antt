-- Two lists side by side, of which one is at its end.
use Rattle.std.proofs.Common.{◌≡◌, List, [], ◌∷◌, ◌⊎◌, refl, inl, inr}
use Rattle.std.specs.List.{zip}

pub zip-nil : {A B : Type 0} (xs : List A) (ys : List B) → (xs ≡ []) ⊎ (ys ≡ []) → zip xs ys ≡ []
zip-nil [] ys e = refl
zip-nil (x ∷ xs) [] e = refl
zip-nil (x ∷ xs) (y ∷ ys) (inl e) = cc
zip-nil (x ∷ xs) (y ∷ ys) (inr e) = cc
