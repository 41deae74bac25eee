use Rattle.std.proofs.Common.{◌≡◌, ◌++◌}
use Rattle.std.specs.Prelude.{drop, map}
use Rattle.vector_clocks.specs.Marks.{before_in}
use Rattle.first_points.specs.Alike.{judged_by}
use Rattle.first_points.specs.KeptPoints.{with_points}
use Rattle.first_points.specs.Tables.{searched}
use Rattle.first_points.proofs.points.add_points.Given as goal

-- what was added, and what is left, are all
abbrev pub invariant-loop-access : goal.invariant-loop-access
invariant-loop-access l =
    map judged_by l.list.items
    ++ map (with_points l.searches.script.now (searched l.searches) (before_in l.clocks) l.model)
    (drop l.access-index l.accesses)
    ≡ map judged_by l.initial.list.items
    ++ map (with_points l.searches.script.now (searched l.searches) (before_in l.clocks) l.model) l.accesses
