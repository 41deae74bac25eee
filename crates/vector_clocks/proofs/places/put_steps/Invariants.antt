use Rattle.std.proofs.Common.{◌≡◌}
use Rattle.std.specs.Prelude.{drop}
use Rattle.vector_clocks.specs.Places.{with_steps}
use Rattle.vector_clocks.proofs.places.put_steps.Given as goal

-- what is left is put after what was
abbrev pub invariant-loop-step : goal.invariant-loop-step
invariant-loop-step l = with_steps l.list (drop l.step-index l.steps) ≡ with_steps l.fn.list l.steps
