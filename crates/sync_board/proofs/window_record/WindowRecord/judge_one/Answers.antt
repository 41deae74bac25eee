use Rattle.std.proofs.Common.{ap, sym, ◌∙◌}
use Rattle.rma_types.specs.Actions.{action_of}
use Rattle.sync_board.proofs.window_record.WindowRecord.judge_one.Goals as goal

pub returns-in-Synchronises : goal.returns-in-Synchronises
returns-in-Synchronises c = λ layout q is kept. c.judge_synchronisation.ensures layout q _ is
    (ap action_of is.call ∙ sym c.action.ensures ∙ c.in-Synchronises.is) kept

pub returns-in-Moves : goal.returns-in-Moves
returns-in-Moves c = λ layout q is kept. c.judge_look_up.ensures layout q is.rank
    (ap action_of is.call ∙ sym c.action.ensures ∙ c.in-Moves.is) kept
