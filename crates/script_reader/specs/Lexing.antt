-- A text and a line cut at their first byte of a kind.
use Rattle.std.specs.Prelude.{◌≡◌, ℕ, List, [], ◌∷◌, Option, Some, None, filter}
use Rattle.std.specs.List.{slice_split}
use Rattle.std.specs.Borrow.{Bor}
use Rattle.script_language.specs.Lines.{lines_of, is_blank, has_bytes}

-- the tokens of a line without a comment
abbrev pub tokens_in : List ℕ → List (List ℕ)
tokens_in line = filter has_bytes (slice_split is_blank line)

-- the lines of what stands behind the first line, if anything does
abbrev pub lines_behind : Option (Bor (List ℕ)) → List (List ℕ)
lines_behind None = []
lines_behind (Some rest) = lines_of rest.now

-- the first line of the text, and the text behind it
abbrev pub BeginsLines : List ℕ → List ℕ → Option (Bor (List ℕ)) → Type 0
BeginsLines text line rest = lines_of text ≡ line ∷ lines_behind rest
