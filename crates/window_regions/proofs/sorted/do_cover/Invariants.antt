use Rattle.window_regions.proofs.Searches.{IsCoveredUpTo}
use Rattle.window_regions.proofs.sorted.do_cover.Given as goal

-- the ranges so far end by the address, and the bytes up to it are attached
abbrev pub invariant-loop-at : goal.invariant-loop-at
invariant-loop-at l = IsCoveredUpTo l.ranges l.win l.lo l.at l.address
