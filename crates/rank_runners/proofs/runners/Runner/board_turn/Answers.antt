use Rattle.std.proofs.Common.{ap, set, refl, length, arith}
use Rattle.rank_runners.proofs.TurnSteps.{needs_here, board_here, few_here, board_left}
use Rattle.rank_runners.proofs.runners.Runner.board_turn.Goals as goal

pub step_at_board-requires-clause-needs : goal.step_at_board-requires-clause-needs
step_at_board-requires-clause-needs c = needs_here _ _ _ _ _ c.requires c.from.ensures c.index_mut.ensures.value

pub step_at_board-requires-clause-board : goal.step_at_board-requires-clause-board
step_at_board-requires-clause-board c = board_here _ _ _ _ _ c.requires c.from.ensures c.index_mut.ensures.value

pub after_board-requires : goal.after_board-requires
after_board-requires c = let few = few_here _ _ _ c.requires in omega arith

pub returns : goal.returns
returns c = record {
  state = c.step_at_board.new.agent;
  changed = ap (λ k. set c.args.self.now.agents.items k c.step_at_board.new.agent) c.from.ensures;
  same_ended = refl;
  goes_on = board_left (record {
    decisions = c.kept_rows_are_enough.ensures.decisions;
    parts =
        c.kept_rows_are_enough.ensures.parts;
  })
      c.args.self.now c.args.rank c.from.result c.index_mut.result.now c.step_at_board.new.agent c.in_ok-waits.waits
      c.step_at_board.new.board c.step_at_board.new.memory c.after_board.new.self _ _
      c.requires.within c.from.ensures c.index_mut.ensures.value c.in_ok-waits.ensures
      (ap length c.entries-before.ensures) (ap length c.entries.ensures) c.after_board.ensures;
}
