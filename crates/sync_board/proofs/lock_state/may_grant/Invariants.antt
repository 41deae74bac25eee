use Rattle.std.proofs.Common.{◌≡◌, ℕ, ◌<◌, ◌≤◌, false}
use Rattle.std.specs.List.{list_any}
use Rattle.board_rules.specs.Locks.{do_clash}
use Rattle.lock_table.specs.HeldLocks.{lock}
use Rattle.sync_board.proofs.lock_state.may_grant.Given as goal

abbrev pub invariant-loop-target : goal.invariant-loop-target
invariant-loop-target l = (rank at : ℕ) → l.fn.reach.first ≤ at → at < l.target →
    list_any (do_clash (lock l.table.window at l.kind rank)) l.table.held ≡ false
