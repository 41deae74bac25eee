use Rattle.std.proofs.Common.{◌≡◌, [], ◌++◌}
use Rattle.std.specs.Prelude.{drop, take}
use Rattle.order_rules.specs.Findings.{findings_after}
use Rattle.vector_clocks.specs.Marks.{before_in}
use Rattle.conflict_check.specs.Listings.{judged_of}
use Rattle.conflict_check.proofs.run_findings.findings_with.Given as goal

-- what was found, and what is left, are all
abbrev pub invariant-loop-at : goal.invariant-loop-at
invariant-loop-at l =
    l.found ++ findings_after l.s.model (before_in l.s.clocks.now) (take l.at (judged_of l.s))
    (drop l.at (judged_of l.s))
    ≡ findings_after l.s.model (before_in l.s.clocks.now) [] (judged_of l.s)
