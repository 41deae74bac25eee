use Rattle.std.proofs.Common.{◌≡◌}
use Rattle.lawful_runs.specs.Cells.{state}
use Rattle.cell_replay.specs.Kept.{touchings_of}
use Rattle.cell_replay.proofs.states.state_of.Given as goal

abbrev pub invariant-loop-place : goal.invariant-loop-place
invariant-loop-place l = l.bits ≡ state (touchings_of l.updates) l.place
