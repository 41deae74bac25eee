use Rattle.std.proofs.Common.{◌≡◌, ◌-◌}
use Rattle.std.specs.List.{find}
use Rattle.call_rules.specs.Pieces.{numbers_from}
use Rattle.rank_runners.specs.RankSets.{has}
use Rattle.rank_runners.proofs.schedules.first_ready.Given as goal

-- no rank so far is ready
abbrev pub invariant-loop-rank : goal.invariant-loop-rank
invariant-loop-rank l =
    find (has l.ready) (numbers_from l.rank (l.to - l.rank)) ≡ find (has l.ready) (numbers_from l.from (l.to - l.from))
