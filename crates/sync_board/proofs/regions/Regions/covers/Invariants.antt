use Rattle.std.proofs.Common.{◌≡◌, ℕ, ◌<◌, ◌≤◌, true, List}
use Rattle.std.specs.List.{list_any}
use Rattle.rank_rules.specs.Ranges.{Range, has_byte}
use Rattle.sync_board.specs.KeptRanges.{KeepsRanges}
use Rattle.sync_board.proofs.regions.Regions.covers.Given as goal

abbrev pub invariant-loop-address : goal.invariant-loop-address
invariant-loop-address l = (ranges : List Range) (k : ℕ) → KeepsRanges ranges l.self → l.lo ≤ k → k < l.address →
    list_any (has_byte k) ranges ≡ true
