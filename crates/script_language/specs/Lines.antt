-- Lines and tokens.
use Rattle.std.specs.Prelude.{ℕ, Bool, true, false, ◌&&◌, ◌||◌, ◌==◌, nat_le, List, [], ◌∷◌, filter}
use Rattle.std.specs.List.{slice_split, before_first, list_all}

-- the lines of a text, which line feeds part: one more than there are line feeds
abbrev pub lines_of : List ℕ → List (List ℕ)
lines_of text = slice_split (λ byte. byte == 10) text

-- a space, a tab or a carriage return
abbrev pub is_blank : ℕ → Bool
is_blank byte = byte == 32 || byte == 9 || byte == 13

-- what stands before the first `#`; the rest is a comment
abbrev pub without_comment : List ℕ → List ℕ
without_comment line = before_first (λ byte. byte == 35) line

abbrev pub has_bytes : List ℕ → Bool
has_bytes [] = false
has_bytes (byte ∷ bytes) = true

-- the tokens of a line: what stands between its blanks
abbrev pub tokens_of : List ℕ → List (List ℕ)
tokens_of line = filter has_bytes (slice_split is_blank (without_comment line))

-- each byte is a printable character
abbrev pub is_printable : List ℕ → Bool
is_printable token = list_all (λ byte. nat_le 33 byte && nat_le byte 126) token
