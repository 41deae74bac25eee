use Rattle.std.proofs.Common.{ap, ◌∙◌}
use Rattle.std.proofs.lemmas.Result.{on_ok_weaker}
use Rattle.rma_types.specs.declared.actions.Action.TheVariants.{Synchronises}
use Rattle.sync_board.proofs.window_record.WindowRecord.enter_meeting.Goals as goal

pub returns-clause-ok : goal.returns-clause-ok
returns-clause-ok c = on_ok_weaker c.fence.result
    (λ more layout q win is action kept. more layout q c.args.asked.now.number win is.rank
    (action ∙ ap (Synchronises win) c.in-Fences.is) kept)
    c.fence.ensures.ok
