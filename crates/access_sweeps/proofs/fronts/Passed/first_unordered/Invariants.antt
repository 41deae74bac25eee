use Rattle.std.proofs.Common.{◌≡◌, ◌≤◌, ◌<◌, ℕ, true}
use Rattle.first_points.specs.Alike.{judged_by}
use Rattle.access_sweeps.specs.Sweeps.{is_passed}
use Rattle.access_sweeps.proofs.fronts.Passed.first_unordered.Given as goal

-- those so far are ordered before the access
abbrev pub invariant-loop-at : goal.invariant-loop-at
invariant-loop-at l = (k : ℕ) → l.from ≤ k → k < l.at → is_passed l.self k (judged_by l.b) ≡ true
