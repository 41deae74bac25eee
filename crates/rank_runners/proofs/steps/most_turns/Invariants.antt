use Rattle.std.proofs.Common.{◌≡◌, ◌+◌, drop, length, sum_by}
use Rattle.rank_runners.proofs.steps.most_turns.Given as goal

-- those so far and those that are left are all
abbrev pub invariant-loop-list : goal.invariant-loop-list
invariant-loop-list l = l.calls + sum_by length (drop l.list-index l.script.calls) ≡ sum_by length l.script.calls
