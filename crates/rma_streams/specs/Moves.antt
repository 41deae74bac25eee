-- Bytes that move out of a source or into a sink. What is left or written is `Some` where it is told, and
-- `None` where it is not; a move keeps it told or not told.
use Rattle.std.specs.Prelude.{◌≡◌, ℕ, ◌<◌, Option, List, [], ◌++◌, length, take, IfSome}
use Rattle.std.specs.Option.{option_map}

-- what was left is these bytes, and then what is left now
abbrev pub Took : Option (List ℕ) → List ℕ → Option (List ℕ) → Type 0
Took old bytes new = old ≡ option_map (λ rest. bytes ++ rest) new

-- some bytes were taken from the front of what was left
abbrev pub TookSome : Option (List ℕ) → Option (List ℕ) → Type 0
TookSome old new = (bytes : List ℕ) × Took old bytes new

-- no byte is left, where that is told
abbrev pub AtEnd : Option (List ℕ) → Type 0
AtEnd left = IfSome left (λ rest. rest ≡ [])

-- what is written now is what was written, and then these bytes
abbrev pub Wrote : Option (List ℕ) → List ℕ → Option (List ℕ) → Type 0
Wrote old bytes new = new ≡ option_map (λ held. held ++ bytes) old

-- what is written now is what was written, and then the first of these bytes, without the last of them
abbrev pub WrotePrefix : Option (List ℕ) → List ℕ → Option (List ℕ) → Type 0
WrotePrefix old bytes new = (n : ℕ) × (n < length bytes) × Wrote old (take n bytes) new
