use Rattle.std.proofs.Common.{◌≡◌, ◌-◌, ◌≤◌, false, ◌++◌}
use Rattle.lock_table.specs.HeldLocks.{HasSameLocks}
use Rattle.sync_board.specs.KeptLocks.{AllOn, asked_from, clashes}
use Rattle.sync_board.proofs.lock_state.grant.Given as goal

abbrev pub invariant-loop-target : goal.invariant-loop-target
invariant-loop-target l = record {
  window : l.table.window ≡ l.fn.table.window;
  held : l.fn.reach.first ≤ l.fn.reach.end → AllOn l.fn.table.window l.fn.table.held →
      clashes l.fn.table.held (asked_from l.rank l.fn.table.window l.kind l.fn.reach.first (l.fn.reach.end - l.fn.reach.first)) ≡ false →
      HasSameLocks l.table.held (l.fn.table.held ++ asked_from l.rank l.fn.table.window l.kind l.fn.reach.first
      (l.target - l.fn.reach.first));
}
