use Rattle.std.proofs.Common.{◌≡◌, ℕ, ◌∙◌, subst, false, [], ◌∷◌, ◌++◌, arith}
use Rattle.std.specs.List.{list_any}
use Rattle.board_rules.specs.Locks.{do_clash}
use Rattle.lock_table.specs.HeldLocks.{HasSameLocks, lock}
use Rattle.sync_board.specs.KeptLocks.{AllOn}
use Rattle.sync_board.proofs.LocksKept.{taken_more}
use Rattle.sync_board.proofs.lock_state.grant.Goals as goal

pub loop-target-preserved : goal.loop-target-preserved
loop-target-preserved c =
    let Takes : ℕ → Type 0 = λ w. AllOn w c.loop-target.table.held →
    list_any (do_clash (lock w c.loop-target.target c.args.kind c.args.rank)) c.loop-target.table.held ≡ false →
    HasSameLocks c.grant_at.new.table.held
    (c.loop-target.table.held ++ lock w c.loop-target.target c.args.kind c.args.rank ∷ []) in
    record {
      window = c.grant_at.ensures.window ∙ c.loop-target.invariant.window;
      held = λ order on free.
          taken_more c.args.table.now.window c.args.rank c.args.kind c.args.reach.first c.loop-target.target c.args.reach.end
          c.args.table.now.held c.loop-target.table.held c.grant_at.new.table.held (omega arith) (omega arith) on free
          (c.loop-target.invariant.held order on free)
          (subst Takes c.loop-target.invariant.window c.grant_at.ensures.held);
    }
