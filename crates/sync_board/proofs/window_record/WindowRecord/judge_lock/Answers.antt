use Rattle.std.proofs.Common.{ap, sym, ◌∙◌}
use Rattle.rma_types.specs.declared.classes.Class.TheVariants.{Sync}
use Rattle.rma_types.specs.declared.actions.Action.TheVariants.{Synchronises}
use Rattle.rma_types.specs.declared.actions.Synchronisation.TheVariants.{Locks}
use Rattle.board_rules.specs.Board.{refuse_if}
use Rattle.sync_board.proofs.Judged.{allowed, refused, waits}
use Rattle.sync_board.proofs.window_record.WindowRecord.judge_lock.Goals as goal

pub returns-then-is_any_posted : goal.returns-then-is_any_posted
returns-then-is_any_posted c = λ layout q win target asserts is reached kept.
    refused q (Synchronises win (Locks c.args.kind target asserts)) Sync is
    (ap (λ b. refuse_if b Sync)
    (sym (c.is_any_posted.ensures layout q target reached kept) ∙ c.if-is_any_posted.true))

pub returns-then-may_lock : goal.returns-then-may_lock
returns-then-may_lock c = λ layout q win target asserts is reached kept.
    allowed q (Synchronises win (Locks c.args.kind target asserts)) is
    (ap (λ b. refuse_if b Sync)
    (sym (c.is_any_posted.ensures layout q target reached kept) ∙ c.if-is_any_posted.false))
    (sym (c.may_lock.ensures q target reached kept.held) ∙ c.if-may_lock.true)

pub returns-else-may_lock : goal.returns-else-may_lock
returns-else-may_lock c = λ layout q win target asserts is reached kept.
    waits q (Synchronises win (Locks c.args.kind target asserts)) is
    (ap (λ b. refuse_if b Sync)
    (sym (c.is_any_posted.ensures layout q target reached kept) ∙ c.if-is_any_posted.false))
    (sym (c.may_lock.ensures q target reached kept.held) ∙ c.if-may_lock.false)
