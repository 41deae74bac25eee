use Rattle.std.proofs.Common.{◌≡◌, ◌++◌}
use Rattle.std.specs.Prelude.{drop}
use Rattle.lawful_runs.specs.Accesses.{on_cell, updates_in}
use Rattle.cell_replay.specs.Kept.{touchings_of}
use Rattle.cell_replay.proofs.touches.updates_on.Given as goal

-- what was taken, and what will be taken of those that are left, are all
abbrev pub invariant-loop-touch : goal.invariant-loop-touch
invariant-loop-touch l =
    touchings_of l.updates.items ++ updates_in (on_cell l.cell (touchings_of (drop l.touch-index l.touches)))
    ≡ updates_in (on_cell l.cell (touchings_of l.touches))
