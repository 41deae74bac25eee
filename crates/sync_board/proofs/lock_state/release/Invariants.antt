use Rattle.std.proofs.Common.{◌≡◌, ◌≤◌}
use Rattle.lock_table.specs.HeldLocks.{HasSameLocks}
use Rattle.sync_board.specs.KeptLocks.{left_within}
use Rattle.sync_board.proofs.lock_state.release.Given as goal

abbrev pub invariant-loop-target : goal.invariant-loop-target
invariant-loop-target l = record {
  window : l.table.window ≡ l.fn.table.window;
  held : l.fn.reach.first ≤ l.fn.reach.end → HasSameLocks l.table.held
      (left_within l.rank l.fn.table.window l.fn.reach.first l.target l.fn.table.held);
}
