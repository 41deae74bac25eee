-- Lines of text: this project's script language and report.
use Rattle.std.specs.Prelude.{ℕ, List, [], ◌∷◌, ◌++◌}
use Rattle.std.specs.Fmt.{decimal, signed_decimal}
use Rattle.std.specs.List.{join_with_byte}
use Rattle.std.specs.Prelude.{ℤ}

-- a line, which a line feed ends
abbrev pub line : List ℕ → List ℕ
line bytes = bytes ++ 10 ∷ []

-- tokens, with one space between any two
abbrev pub join_by_spaces : List (List ℕ) → List ℕ
join_by_spaces tokens = join_with_byte 32 tokens

-- a natural number in decimal, without leading zeros
abbrev pub number : ℕ → List ℕ
number n = decimal n

-- an integer in decimal, with a minus sign where it is below zero
abbrev pub integer : ℤ → List ℕ
integer z = signed_decimal z
