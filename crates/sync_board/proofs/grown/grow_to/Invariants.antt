use Rattle.std.proofs.Common.{ℕ, ◌≡◌, ◌<◌, ◌≤◌, length, get_or}
use Rattle.sync_board.proofs.grown.grow_to.Given as goal

abbrev pub invariant-loop-next : goal.invariant-loop-next
invariant-loop-next g l = record {
  long : length l.items.items ≡ l.next;
  start : length l.initial.items.items ≡ l.start;
  same : (at : ℕ) (none : g.row.T.Denot) → at < length l.initial.items.items →
      get_or l.items.items at none ≡ get_or l.initial.items.items at none;
  idle : (at : ℕ) (none : g.row.T.Denot) → length l.initial.items.items ≤ at → at < length l.items.items →
      g.T.Idle.is_idle (get_or l.items.items at none);
}
