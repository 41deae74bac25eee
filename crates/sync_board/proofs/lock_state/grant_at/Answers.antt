use Rattle.std.proofs.Common.{◌≡◌, ◌∙◌, ap, sym, not, true, false}
use Rattle.sync_board.proofs.LockTests.{already}
use Rattle.sync_board.proofs.lock_state.grant_at.Goals as goal
use Rattle.sync_board.proofs.lock_state.grant_at.Goals.{else-may_grant-via-then-may_grant+else-not-holds}
use Rattle.sync_board.proofs.lock_state.grant_at.Goals.{else-may_grant-via-else-may_grant}

pub returns-else-may_grant-clause-held : goal.returns-else-may_grant-clause-held
returns-else-may_grant-clause-held c = λ on free. elim c.else-may_grant.branch [
  | else-may_grant-via-then-may_grant+else-not-holds w ↦
      already c.args.table.now.window c.args.target c.args.rank c.args.kind c.args.table.now.held on free
      (sym w.holds.ensures ∙ w.if-not-holds.false)
  | else-may_grant-via-else-may_grant w ↦
      absurd (let wrong : true ≡ false = sym (c.may_grant.ensures c.args.rank ∙ ap not free)
      ∙ w.if-may_grant.false in cc)
]
