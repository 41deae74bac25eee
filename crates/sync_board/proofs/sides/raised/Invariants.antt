use Rattle.std.proofs.Common.{◌≡◌, ℕ, ◌<◌, ◌≤◌, ◌+◌, get_or, cond, false, length}
use Rattle.sync_board.proofs.sides.raised.Given as goal

abbrev pub invariant-loop-rank : goal.invariant-loop-rank
invariant-loop-rank l = record {
  length : length l.raised ≡ 16;
  below : (k : ℕ) → k < l.rank → get_or l.raised k 0 ≡ get_or l.counts k 0 + cond (get_or l.named k false) 1 0;
  above : (k : ℕ) → l.rank ≤ k → get_or l.raised k 0 ≡ get_or l.counts k 0;
}
