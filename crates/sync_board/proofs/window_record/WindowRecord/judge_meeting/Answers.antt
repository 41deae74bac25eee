use Rattle.std.proofs.Common.{ap, ◌∙◌}
use Rattle.rma_types.specs.declared.actions.Action.TheVariants.{Synchronises}
use Rattle.sync_board.proofs.window_record.WindowRecord.judge_meeting.Goals as goal

pub returns-in-Fences : goal.returns-in-Fences
returns-in-Fences c = λ layout q win is action kept. c.judge_fence.ensures layout q win is
    (action ∙ ap (Synchronises win) c.in-Fences.is) kept
