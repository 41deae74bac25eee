-- Parts of lists.
use Rattle.std.proofs.Common.{◌≡◌, ℕ, zero, suc, List, [], ◌∷◌, ◌++◌, Some, ap}
use Rattle.std.specs.Prelude.{take, slice_get}

pub take_at : {X : Type 0} (xs : List X) (k : ℕ) (x : X) → slice_get xs k ≡ Some x → take (suc k) xs ≡ take k xs
    ++ x ∷ []
take_at [] k x e = absurd (cc e)
take_at (y ∷ xs) zero x e = let same : y ≡ x = cc e in ap (λ z. z ∷ []) same
take_at (y ∷ xs) (suc k) x e = ap (λ l. y ∷ l) (take_at xs k x e)
