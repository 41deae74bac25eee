-- The ranges that a rank has attached to a window, as the board keeps them: MPI 3.1, section 11.2.4.
use Rattle.std.specs.Prelude.{◌≡◌, ℕ, Bool, not, ◌==◌, List, ◌++◌, map}
use Rattle.std.specs.List.{filter, list_any}
use Rattle.rank_rules.specs.Ranges.{Range}
use Rattle.sync_board.specs.declared.regions.Regions.{Regions}
use Rattle.sync_board.specs.declared.regions.Span.{Span}

-- the two lists have the same ranges: no test tells them apart
abbrev pub HasSameRanges : List Range → List Range → Type 0
HasSameRanges a b = (test : Range → Bool) → list_any test a ≡ list_any test b

abbrev pub range_in : Span → Range
range_in span = record { base = span.base; bytes = span.bytes }

-- all ranges that are kept: those without a byte in common, and the others
abbrev pub all_ranges : Regions → List Range
all_ranges regions = regions.apart ++ map range_in regions.others.items

-- the ranges are those that are kept
abbrev pub KeepsRanges : List Range → Regions → Type 0
KeepsRanges ranges regions = HasSameRanges (all_ranges regions) ranges

-- the ranges that do not begin at the base
abbrev pub without : ℕ → List Range → List Range
without base ranges = filter (λ (range : Range). not (range.base == base)) ranges
