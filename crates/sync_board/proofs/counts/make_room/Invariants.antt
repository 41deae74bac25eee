use Rattle.std.proofs.Common.{◌≡◌, ℕ, get_or, length}
use Rattle.sync_board.proofs.counts.make_room.Given as goal

abbrev pub invariant-loop-next : goal.invariant-loop-next
invariant-loop-next l = record {
  length : length l.counts.items ≡ l.next;
  same : (k : ℕ) → get_or l.counts.items k 0 ≡ get_or l.initial.counts.items k 0;
}
