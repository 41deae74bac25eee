use Rattle.std.proofs.Common.{◌≡◌, ◌++◌}
use Rattle.std.specs.Prelude.{drop}
use Rattle.first_points.specs.Tables.{HaveTheirSteps, searched}
use Rattle.first_points.proofs.step_searches.searches_of.Given as goal

-- the tables of each rank have its steps; what is recorded, and what is left, are all
abbrev pub invariant-loop-kept : goal.invariant-loop-kept
invariant-loop-kept l =
    HaveTheirSteps l.searches
    × (searched l.searches ++ drop l.kept-index l.records ≡ l.records)
    × (l.searches.script.now ≡ l.script)
