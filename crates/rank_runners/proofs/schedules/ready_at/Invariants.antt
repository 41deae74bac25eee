use Rattle.std.proofs.Common.{◌≡◌, ◌-◌}
use Rattle.std.specs.Prelude.{slice_get}
use Rattle.std.specs.List.{filter}
use Rattle.call_rules.specs.Pieces.{numbers_from}
use Rattle.rank_runners.specs.RankSets.{has}
use Rattle.rank_runners.proofs.schedules.ready_at.Given as goal

-- the one so far on among those that are left is the one sought
abbrev pub invariant-loop-rank : goal.invariant-loop-rank
invariant-loop-rank l =
    slice_get (filter (has l.ready) (numbers_from l.rank (l.ranks - l.rank))) l.left
    ≡ slice_get (filter (has l.ready) (numbers_from 0 l.ranks)) l.place
