use Rattle.std.proofs.Common.{◌≡◌, ◌-◌, ◌≤◌}
use Rattle.std.specs.Prelude.{reverse}
use Rattle.std.specs.List.{find}
use Rattle.call_rules.specs.Pieces.{numbers_from}
use Rattle.rank_runners.specs.RankSets.{has}
use Rattle.rank_runners.proofs.schedules.last_ready.Given as goal

-- no rank so far is ready
abbrev pub invariant-loop-at : goal.invariant-loop-at
invariant-loop-at l = record {
  within : l.at ≤ l.to;
  found : find (has l.ready) (reverse (numbers_from l.from (l.at - l.from)))
      ≡ find (has l.ready) (reverse (numbers_from l.from (l.to - l.from)));
}

abbrev pub decreases-loop-at : goal.decreases-loop-at
decreases-loop-at l = l.at
