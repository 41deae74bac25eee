use Rattle.std.proofs.Common.{◌≡◌}
use Rattle.std.specs.Prelude.{drop}
use Rattle.std.specs.List.{find}
use Rattle.first_points.specs.KeptPoints.{is_sought}
use Rattle.first_points.proofs.searches.first_sought.Given as goal

-- what is left decides
abbrev pub invariant-loop-step : goal.invariant-loop-step
invariant-loop-step l =
    find (is_sought l.script l.sought l.access) (drop l.step-index l.steps)
    ≡ find (is_sought l.script l.sought l.access) l.steps
