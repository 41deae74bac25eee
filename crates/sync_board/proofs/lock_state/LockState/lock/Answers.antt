use Rattle.sync_board.proofs.LocksKept.{keeps_with_lock}
use Rattle.sync_board.proofs.lock_state.LockState.lock.Goals as goal

pub returns : goal.returns
returns c = λ q act target is here on by asker call free kept.
    keeps_with_lock q act c.args.rank c.args.kind target c.args.reach c.made-table.result c.grant.new.table is on by asker
    call free c.grant.ensures.window c.grant.ensures.held
    (c.made-table.ensures q.ranks q.window q.entries here (rw c.take.ensures.value kept))
