use Rattle.std.proofs.Common.{refl, sym, ◌∙◌}
use Rattle.rma_types.specs.declared.actions.Action.TheVariants.{Synchronises}
use Rattle.rma_types.specs.declared.actions.Synchronisation.TheVariants.{Waits}
use Rattle.sync_board.proofs.Judged.{allowed, waits}
use Rattle.sync_board.proofs.Matched.{last_is}
use Rattle.sync_board.proofs.window_record.WindowRecord.judge_wait.Goals as goal

pub returns-then-has_completes : goal.returns-then-has_completes
returns-then-has_completes c = λ layout q win tests asked is kept.
    allowed q (Synchronises win (Waits tests)) is refl
    (sym (c.has_completes.ensures q asked.rank kept.sides (rw (last_is q q.rank refl) (kept.members q.rank)))
    ∙ c.if-has_completes.true)

pub returns-else-has_completes : goal.returns-else-has_completes
returns-else-has_completes c = λ layout q win tests asked is kept.
    waits q (Synchronises win (Waits tests)) is refl
    (sym (c.has_completes.ensures q asked.rank kept.sides (rw (last_is q q.rank refl) (kept.members q.rank)))
    ∙ c.if-has_completes.false)
