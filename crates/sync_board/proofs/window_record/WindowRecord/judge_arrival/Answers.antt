use Rattle.std.proofs.Common.{ap, refl, sym, ◌∙◌}
use Rattle.rma_types.specs.Actions.{action_of}
use Rattle.sync_board.proofs.window_record.WindowRecord.judge_arrival.Goals as goal

pub returns-in-Creates : goal.returns-in-Creates
returns-in-Creates c = λ layout q is kept. c.judge_creation.ensures layout q _ is
    (ap action_of is.call ∙ sym c.action.ensures ∙ c.in-Creates.is) refl kept

pub returns-in-Synchronises : goal.returns-in-Synchronises
returns-in-Synchronises c = λ layout q is kept. c.judge_meeting.ensures layout q _ is
    (ap action_of is.call ∙ sym c.action.ensures ∙ c.in-Synchronises.is) kept
