use Rattle.std.proofs.Common.{◌≡◌, ◌++◌}
use Rattle.std.specs.Prelude.{drop}
use Rattle.every_point.specs.Points.{is_done, names_passing}
use Rattle.every_point.proofs.kept.done_among.Given as goal

-- those that passed, and those that pass of what is left, are all
abbrev pub invariant-loop-step : goal.invariant-loop-step
invariant-loop-step l =
    l.points ++ names_passing (is_done l.script l.led l.access) (drop l.step-index l.steps)
    ≡ names_passing (is_done l.script l.led l.access) l.steps
