-- The numbers of a clock.
use Rattle.std.specs.Prelude.{ℕ, ◌+◌, max, List, Option, Some, None, slice_index, slice_set}
use Rattle.cell_face.specs.Fronts.{greater}

-- the numbers with the item of this index counted, at its rank
unfoldable pub raised : List ℕ → ℕ → ℕ → List ℕ
raised prev rank index = slice_set prev rank (max (slice_index prev rank) (index + 1))

-- the clock of an entry by what its rank gave and what it gained
unfoldable pub counts_of : Option (List ℕ) → List ℕ → List ℕ
counts_of None gift = gift
counts_of (Some all) gift = greater gift all
