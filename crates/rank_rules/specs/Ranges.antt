-- Ranges of a rank's memory: MPI 3.1, section 11.2.4.
use Rattle.std.specs.Prelude.{ℕ, ◌+◌, Bool, ◌&&◌, nat_lt, nat_le, List}
use Rattle.std.specs.List.{list_any, list_all}
use Rattle.call_rules.specs.Pieces.{numbers_from}

-- the bytes from an address on
pub record Range : Type 0 where
  pub base : ℕ
  pub bytes : ℕ

-- the two ranges have a byte in common
abbrev pub do_overlap : Range → Range → Bool
do_overlap a b =
    nat_lt 0 a.bytes && nat_lt 0 b.bytes && nat_lt a.base (b.base + b.bytes) && nat_lt b.base (a.base + a.bytes)

-- a byte of the range lies in one of the others
abbrev pub is_taken : List Range → Range → Bool
is_taken ranges range = list_any (do_overlap range) ranges

abbrev pub has_byte : ℕ → Range → Bool
has_byte address range = nat_le range.base address && nat_lt address (range.base + range.bytes)

-- each byte from an address on, as many as are said, lies in one of the ranges
abbrev pub covers : List Range → ℕ → ℕ → Bool
covers ranges lo len = list_all (λ address. list_any (has_byte address) ranges) (numbers_from lo len)
