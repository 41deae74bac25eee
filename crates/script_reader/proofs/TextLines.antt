-- The lines of a text, one after the other.
use Rattle.std.proofs.Common.{ℕ, ◌+◌, List, length, Option, Some, None}
use Rattle.std.specs.Borrow.{Bor}

-- the bytes that are left, and one for the line that they begin
abbrev pub size_left : Option (Bor (List ℕ)) → ℕ
size_left None = 0
size_left (Some rest) = length rest.now + 1
