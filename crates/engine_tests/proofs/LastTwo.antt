-- The last two of a list of two.
use Rattle.std.proofs.Common.{◌≡◌, List, [], ◌∷◌, ◌++◌, length, ap, arith, length-append}

pub first_of_two : {X : Type 0} (a b : X) (rest : List X) (x y : X) → a ∷ b ∷ [] ≡ rest ++ x ∷ y ∷ [] → x ≡ a
first_of_two a b [] x y e = cc e
first_of_two a b (z ∷ rest) x y e =
    let long = ap length e in
    let parts = length-append rest (x ∷ y ∷ []) in
    absurd (omega (arith, long, parts))
