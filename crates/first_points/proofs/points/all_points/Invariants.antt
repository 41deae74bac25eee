use Rattle.std.proofs.Common.{◌≡◌, ◌++◌}
use Rattle.std.specs.Prelude.{drop, map}
use Rattle.vector_clocks.specs.Marks.{before_in}
use Rattle.first_points.specs.Alike.{judged_by}
use Rattle.first_points.specs.KeptPoints.{kept_accesses, with_points}
use Rattle.first_points.specs.Tables.{searched}
use Rattle.first_points.specs.declared.step_searches.RankTables.{RankTables}
use Rattle.first_points.proofs.points.all_points.Given as goal

-- what was added, and what is left, are all
abbrev pub invariant-loop-rank : goal.invariant-loop-rank
invariant-loop-rank l =
    map judged_by l.list.items
    ++ map (with_points l.searches.script.now (searched l.searches) (before_in l.clocks) l.model)
    (kept_accesses (map (λ (r : RankTables). r.kept.now) (drop l.rank-index l.searches.ranks.items)))
    ≡ map (with_points l.searches.script.now (searched l.searches) (before_in l.clocks) l.model)
    (kept_accesses (searched l.searches))
