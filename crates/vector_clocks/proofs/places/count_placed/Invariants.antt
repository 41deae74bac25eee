use Rattle.std.proofs.Common.{◌≡◌, ◌≤◌}
use Rattle.std.specs.Prelude.{take}
use Rattle.std.specs.List.{count_by}
use Rattle.vector_clocks.specs.Places.{has_place}
use Rattle.vector_clocks.proofs.places.count_placed.Given as goal

abbrev pub invariant-loop-step : goal.invariant-loop-step
invariant-loop-step l = record {
  so_far : l.count ≡ count_by has_place (take l.step-index l.steps);
  few : l.count ≤ l.step-index;
}
