-- The fronts that tokens carry: for each cell a lowest place, which the holder may no longer see a state before.
use Rattle.std.specs.Prelude.{ℕ, max, List, [], ◌∷◌, Option, Some, None}

-- for each cell the greater of the two places
abbrev pub greater : List ℕ → List ℕ → List ℕ
greater [] others = others
greater (place ∷ places) [] = place ∷ places
greater (place ∷ places) (other ∷ others) = max place other ∷ greater places others

-- the front of two tokens together, where both tell one
abbrev pub greater_front : Option (List ℕ) → Option (List ℕ) → Option (List ℕ)
greater_front None other = None
greater_front (Some places) None = None
greater_front (Some places) (Some others) = Some (greater places others)
