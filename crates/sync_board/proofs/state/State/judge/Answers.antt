use Rattle.std.proofs.Common.{refl, ◌∙◌}
use Rattle.board_rules.specs.Questions.{Question, question}
use Rattle.sync_board.specs.Asked.{IsQuestion, row_asked}
use Rattle.sync_board.proofs.state.State.judge.Goals as goal

pub returns-then-leaves_barrier : goal.returns-then-leaves_barrier
returns-then-leaves_barrier c = λ layout rows after kept.
    let leaves = c.leaves_barrier.ensures.leaves c.if-leaves_barrier.true in
    c.judge_barrier.ensures layout rows leaves.1 leaves.0 kept

pub returns-else-leaves_barrier : goal.returns-else-leaves_barrier
returns-else-leaves_barrier c = λ layout rows after kept.
    let q : Question = question c.args.asked.now.ranks rows (row_asked c.args.asked.now) in
    let is : IsQuestion (question c.args.asked.now.ranks rows (row_asked c.args.asked.now)) c.args.asked.now = record
    { ranks = refl; rank = refl; call = refl; window = after.window } in
    c.judge.ensures layout q is (after.window ∙ after.number) kept.windows
    (c.leaves_barrier.ensures.other c.if-leaves_barrier.false)
