use Rattle.std.proofs.Common.{◌≡◌}
use Rattle.std.specs.Prelude.{drop}
use Rattle.vector_clocks.specs.Marks.{before_in}
use Rattle.first_points.specs.Alike.{reaches}
use Rattle.first_points.proofs.accesses.do_reach.Given as goal

-- what is left decides
abbrev pub invariant-loop-point : goal.invariant-loop-point
invariant-loop-point l =
    reaches (before_in l.clocks) (drop l.point-index l.points) l.id ≡ reaches (before_in l.clocks) l.points l.id
