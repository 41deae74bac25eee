use Rattle.std.proofs.Common.{◌≡◌, ℕ, ◌<◌, ◌≤◌, false}
use Rattle.rma_types.specs.declared.scripts.Layout.{Layout}
use Rattle.board_rules.specs.Posts.{is_posted}
use Rattle.board_rules.specs.Questions.{Question}
use Rattle.sync_board.specs.Windows.{KeepsBefore}
use Rattle.sync_board.proofs.window_record.WindowRecord.is_any_posted.Given as goal

abbrev pub invariant-loop-rank : goal.invariant-loop-rank
invariant-loop-rank l = (layout : Layout) (q : Question) (k : ℕ) → KeepsBefore layout q l.self → l.fn.reach.first ≤ k →
    k < l.rank → is_posted q k ≡ false
