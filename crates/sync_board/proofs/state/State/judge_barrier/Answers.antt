use Rattle.std.proofs.Common.{Bool, false, refl, ap, sym, ◌∙◌, None}
use Rattle.std.specs.Option.{option_map_or}
use Rattle.rma_types.specs.declared.actions.Action.{Action}
use Rattle.board_rules.specs.Board.{decision, decision_by}
use Rattle.board_rules.specs.Entries.{Barrier, collective_in, is_same_collective}
use Rattle.board_rules.specs.Questions.{question}
use Rattle.sync_board.specs.Asked.{row_asked}
use Rattle.sync_board.proofs.Meetings.{window_zero}
use Rattle.sync_board.proofs.state.State.judge_barrier.Goals as goal

abbrev is_met : Action → Bool
is_met action = option_map_or (is_same_collective Barrier) (collective_in action) false

pub returns-then-have_all_met : goal.returns-then-have_all_met
returns-then-have_all_met c = λ layout rows call step kept.
    let zero = window_zero rows (row_asked c.args.asked.now) (ap is_met call) in
    sym (ap (decision (question c.args.asked.now.ranks rows (row_asked c.args.asked.now))) step
    ∙ ap (decision_by None) (sym (c.have_all_met.ensures
    (question c.args.asked.now.ranks rows (row_asked c.args.asked.now)) rows refl refl call zero refl kept.met)
    ∙ c.if-have_all_met.true))

pub returns-else-have_all_met : goal.returns-else-have_all_met
returns-else-have_all_met c = λ layout rows call step kept.
    let zero = window_zero rows (row_asked c.args.asked.now) (ap is_met call) in
    sym (ap (decision (question c.args.asked.now.ranks rows (row_asked c.args.asked.now))) step
    ∙ ap (decision_by None) (sym (c.have_all_met.ensures
    (question c.args.asked.now.ranks rows (row_asked c.args.asked.now)) rows refl refl call zero refl kept.met)
    ∙ c.if-have_all_met.false))
