use Rattle.std.proofs.Common.{◌≡◌}
use Rattle.std.specs.Prelude.{drop}
use Rattle.every_point.specs.Edges.{is_among}
use Rattle.every_point.proofs.tests_of_steps.is_among.Given as goal

-- what is left decides
abbrev pub invariant-loop-one : goal.invariant-loop-one
invariant-loop-one l = is_among (drop l.one-index l.ids) l.id ≡ is_among l.ids l.id
