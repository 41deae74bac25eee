use Rattle.std.proofs.Common.{◌≡◌, ◌++◌}
use Rattle.std.specs.Prelude.{drop}
use Rattle.first_points.specs.declared.searches.Sought.TheVariants.{GivingOut}
use Rattle.every_point.specs.Points.{is_later_sought, names_passing}
use Rattle.every_point.proofs.kept.given_out_among.Given as goal

-- those that passed, and those that pass of what is left, are all
abbrev pub invariant-loop-step : goal.invariant-loop-step
invariant-loop-step l =
    l.points ++ names_passing (is_later_sought l.script GivingOut l.access) (drop l.step-index l.steps)
    ≡ names_passing (is_later_sought l.script GivingOut l.access) l.steps
