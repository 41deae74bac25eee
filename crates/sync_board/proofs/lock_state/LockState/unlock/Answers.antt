use Rattle.sync_board.proofs.LocksKept.{keeps_with_unlock}
use Rattle.sync_board.proofs.lock_state.LockState.unlock.Goals as goal

pub returns : goal.returns
returns c = λ ranks at entries act target is here on by call kept.
    keeps_with_unlock ranks at entries act c.args.rank target c.args.reach c.made-table.result c.release.new.table is on by
    call c.release.ensures.window c.release.ensures.held
    (c.made-table.ensures ranks at entries here (rw c.take.ensures.value kept))
