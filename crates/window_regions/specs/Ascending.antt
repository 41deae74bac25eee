-- Ranges of memory without a byte in common, in ascending order.
use Rattle.std.specs.Prelude.{ℕ, Bool, ◌&&◌, ◌==◌, ◌+◌, ◌<◌, ◌≤◌, List, length, slice_index_or, AllPairs}
use Rattle.rank_rules.specs.Ranges.{has_byte}
use Rattle.rank_rules.specs.Windows.{OwnRange}

-- the address after the last byte
abbrev pub end_of : OwnRange → ℕ
end_of own = own.range.base + own.range.bytes

-- the one ends before the other begins
abbrev pub IsBefore : OwnRange → OwnRange → Type 0
IsBefore a b = end_of a ≤ b.range.base

-- each has bytes, and ends before the later ones begin
pub record IsAscending (ranges : List OwnRange) : Type 0 where
  pub in_order : AllPairs IsBefore ranges
  pub with_bytes : (i : ℕ) (d : OwnRange) → i < length ranges → 0 < (slice_index_or ranges i d).range.bytes

-- the ranges before this place end by the address, and those from there on end past it
pub record IsFirstPast (ranges : List OwnRange) (address : ℕ) (at : ℕ) : Type 0 where
  pub within : at ≤ length ranges
  pub before : (i : ℕ) (d : OwnRange) → i < at → end_of (slice_index_or ranges i d) ≤ address
  pub after : (i : ℕ) (d : OwnRange) → at ≤ i → i < length ranges → address < end_of (slice_index_or ranges i d)

-- the byte lies in the range, which is attached to the window
abbrev pub is_attached_byte : ℕ → ℕ → OwnRange → Bool
is_attached_byte win address own = (own.is_attached && own.win == win) && has_byte address own.range
