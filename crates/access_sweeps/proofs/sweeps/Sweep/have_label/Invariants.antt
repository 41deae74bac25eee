use Rattle.std.proofs.Common.{◌≡◌, ◌<◌, ℕ, true}
use Rattle.std.specs.Prelude.{slice_index}
use Rattle.access_sweeps.specs.Labels.{do_stand, label_of}
use Rattle.access_sweeps.specs.Places.{judged_at}
use Rattle.access_sweeps.specs.Sweeps.{accesses_of}
use Rattle.access_sweeps.proofs.sweeps.Sweep.have_label.Given as goal

-- those so far have the label
abbrev pub invariant-loop-at : goal.invariant-loop-at
invariant-loop-at l = (k : ℕ) → k < l.at →
    do_stand (label_of l.self.by_operation (judged_at (accesses_of l.self) (slice_index l.places k)).access) l.label ≡ true
