use Rattle.std.proofs.Common.{◌∙◌, sym}
use Rattle.sync_board.proofs.LockTests.{none_goes}
use Rattle.sync_board.proofs.lock_state.release_at.Goals as goal

pub returns-else-holds-clause-held : goal.returns-else-holds-clause-held
returns-else-holds-clause-held c =
    none_goes c.args.table.now.window c.args.target c.args.rank c.args.table.now.held
    (sym c.holds.ensures ∙ c.if-holds.false)
