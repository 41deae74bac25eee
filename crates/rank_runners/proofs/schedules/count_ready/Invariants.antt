use Rattle.std.proofs.Common.{◌≡◌, ◌+◌, ◌-◌, ◌≤◌, length}
use Rattle.std.specs.List.{filter}
use Rattle.call_rules.specs.Pieces.{numbers_from}
use Rattle.rank_runners.specs.RankSets.{has}
use Rattle.rank_runners.proofs.schedules.count_ready.Given as goal

-- those so far and those that are left are all
abbrev pub invariant-loop-rank : goal.invariant-loop-rank
invariant-loop-rank l = record {
  all : l.count + length (filter (has l.ready) (numbers_from l.rank (l.ranks - l.rank)))
      ≡ length (filter (has l.ready) (numbers_from 0 l.ranks));
  few : l.count ≤ l.rank;
}
