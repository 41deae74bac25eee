use Rattle.std.proofs.Common.{◌≡◌, ◌≤◌, ◌<◌, ◌⊎◌, ℕ, true}
use Rattle.first_points.specs.Alike.{judged_by}
use Rattle.access_sweeps.specs.Labels.{do_stand, label_of}
use Rattle.access_sweeps.specs.Sweeps.{first_at, is_passed}
use Rattle.access_sweeps.proofs.fronts.Passed.first_unlike.Given as goal

-- those so far are ordered before the access, or have the label
abbrev pub invariant-loop-at : goal.invariant-loop-at
invariant-loop-at l = (k : ℕ) → l.from ≤ k → k < l.at →
    (is_passed l.self k (judged_by l.b) ≡ true)
    ⊎ (do_stand (label_of l.self.by_operation (first_at l.self k).access) l.label ≡ true)
