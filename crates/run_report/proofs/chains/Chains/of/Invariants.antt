use Rattle.std.proofs.Common.{◌≤◌, length}
use Rattle.run_report.specs.Chains.{AreChains}
use Rattle.run_report.proofs.chains.Chains.of.Given as goal

-- the chains of the items that were reached, from the back
abbrev pub invariant-loop-at : goal.invariant-loop-at
invariant-loop-at l = record {
  within : l.at ≤ length l.items;
  chains : AreChains l.calls l.items l.at l.chains.first.items l.chains.next.items;
}

abbrev pub decreases-loop-at : goal.decreases-loop-at
decreases-loop-at l = l.at
