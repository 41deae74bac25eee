use Rattle.std.proofs.Common.{◌≡◌}
use Rattle.std.specs.Prelude.{drop}
use Rattle.std.specs.List.{find}
use Rattle.lawful_runs.specs.Cells.{has_place}
use Rattle.cell_replay.specs.Kept.{touchings_of}
use Rattle.cell_replay.proofs.states.update_at.Given as goal

-- what is left decides
abbrev pub invariant-loop-update : goal.invariant-loop-update
invariant-loop-update l =
    find (has_place l.place) (touchings_of (drop l.update-index l.updates))
    ≡ find (has_place l.place) (touchings_of l.updates)
