-- The greater of two fronts, place by place.
use Rattle.std.proofs.Common.{◌≡◌, ℕ, zero, suc, ◌<◌, max, List, [], ◌∷◌, length, get_or, refl, ap, arith, sym, ◌∙◌}
use Rattle.std.proofs.lemmas.List.{ext_get_or}
use Rattle.cell_face.specs.Fronts.{greater}

pub length-greater : (xs ys : List ℕ) → length xs ≡ length ys → length (greater xs ys) ≡ length xs
length-greater [] [] e = refl
length-greater [] (y ∷ ys) e = absurd (omega arith)
length-greater (x ∷ xs) [] e = refl
length-greater (x ∷ xs) (y ∷ ys) e = ap suc (length-greater xs ys (omega arith))

get_or-greater : (xs ys : List ℕ) (k : ℕ) → length xs ≡ length ys → get_or (greater xs ys) k 0 ≡ max (get_or xs k 0)
    (get_or ys k 0)
get_or-greater [] [] k e = refl
get_or-greater [] (y ∷ ys) k e = absurd (omega arith)
get_or-greater (x ∷ xs) [] k e = absurd (omega arith)
get_or-greater (x ∷ xs) (y ∷ ys) zero e = refl
get_or-greater (x ∷ xs) (y ∷ ys) (suc k) e = get_or-greater xs ys k (omega arith)

-- a list with the greater of the two places at each index
pub greater_is : (xs ys zs : List ℕ) → length xs ≡ length ys → length zs ≡ length xs →
    ((k : ℕ) → k < length xs → get_or zs k 0 ≡ max (get_or xs k 0) (get_or ys k 0)) → zs ≡ greater xs ys
greater_is xs ys zs e l h =
    ext_get_or 0 zs (greater xs ys) (l ∙ sym (length-greater xs ys e))
    (λ k lt. h k (omega arith) ∙ sym (get_or-greater xs ys k e))
