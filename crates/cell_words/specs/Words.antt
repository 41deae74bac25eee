-- A cell as one word of 64 bits: its bits in the high half, the number of its updates in the low half.
use Rattle.std.specs.Prelude.{ℕ, ◌+◌, ◌*◌, ◌/◌, ◌%◌, ◌^◌, List, ◌∷◌, map}
use Rattle.call_rules.specs.declared.cells.Cell.{Cell}

-- the word of a cell with these bits, after so many updates
abbrev pub word_of : ℕ → ℕ → ℕ
word_of bits place = bits * 2 ^ 32 + place

-- the state of the cell that has this word
abbrev pub seen_in : ℕ → Cell
seen_in word = record { bits = word / 2 ^ 32; place = word % 2 ^ 32 }

-- the words at the start: one that is spare, and then that of each cell without an update
abbrev pub words_of : List ℕ → List ℕ
words_of init = 0 ∷ map (λ bits. word_of bits 0) init
