use Rattle.std.proofs.Common.{◌≡◌, ◌++◌}
use Rattle.std.specs.Prelude.{drop}
use Rattle.every_point.specs.Points.{all_steps}
use Rattle.every_point.proofs.kept.all_steps.Given as goal

-- the steps so far, and those of what is left, are all
abbrev pub invariant-loop-record : goal.invariant-loop-record
invariant-loop-record l = l.steps.items ++ all_steps (drop l.record-index l.records) ≡ all_steps l.records
