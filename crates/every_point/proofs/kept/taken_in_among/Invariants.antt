use Rattle.std.proofs.Common.{◌≡◌, ◌++◌}
use Rattle.std.specs.Prelude.{drop}
use Rattle.vector_clocks.specs.Marks.{before_in}
use Rattle.every_point.specs.Points.{is_taken_in, names_passing}
use Rattle.every_point.proofs.kept.taken_in_among.Given as goal

-- those that passed, and those that pass of what is left, are all
abbrev pub invariant-loop-step : goal.invariant-loop-step
invariant-loop-step l =
    l.points ++ names_passing (is_taken_in l.script (before_in l.clocks) l.done l.access) (drop l.step-index l.steps)
    ≡ names_passing (is_taken_in l.script (before_in l.clocks) l.done l.access) l.steps
