use Rattle.std.proofs.Common.{◌≡◌, ◌++◌}
use Rattle.std.specs.Prelude.{drop}
use Rattle.std.specs.List.{filter}
use Rattle.first_points.specs.Keys.{has_key, listed_at}
use Rattle.first_points.specs.declared.keys.StepKey.{StepKey}
use Rattle.first_points.proofs.step_tables.table_of.Given as goal

-- what is listed, and what is left, are all
abbrev pub invariant-loop-step : goal.invariant-loop-step
invariant-loop-step l = (key : StepKey) →
    listed_at l.table key ++ filter (has_key l.script l.aim key) (drop l.step-index l.steps)
    ≡ filter (has_key l.script l.aim key) l.steps
