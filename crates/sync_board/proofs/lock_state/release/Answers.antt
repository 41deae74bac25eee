use Rattle.std.proofs.Common.{ℕ, ◌∙◌, subst, refl, arith}
use Rattle.lock_table.specs.HeldLocks.{HasSameLocks, kept}
use Rattle.sync_board.proofs.LockTests.{left_more, left_none}
use Rattle.sync_board.proofs.lock_state.release.Goals as goal

pub loop-target-init : goal.loop-target-init
loop-target-init c = record {
  window = refl;
  held = λ order. left_none c.args.rank c.args.table.now.window c.args.reach.first c.args.table.now.held;
}

pub loop-target-preserved : goal.loop-target-preserved
loop-target-preserved c =
    let Goes : ℕ → Type 0 = λ w. HasSameLocks c.release_at.new.table.held
    (kept c.args.rank w c.loop-target.target c.loop-target.table.held) in
    record {
      window = c.release_at.ensures.window ∙ c.loop-target.invariant.window;
      held = λ order. left_more c.args.rank c.args.table.now.window c.args.reach.first c.loop-target.target
          c.args.table.now.held c.loop-target.table.held c.release_at.new.table.held (omega arith)
          (c.loop-target.invariant.held order) (subst Goes c.loop-target.invariant.window c.release_at.ensures.held);
    }
