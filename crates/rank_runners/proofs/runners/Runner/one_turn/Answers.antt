use Rattle.std.proofs.Common.{◌∙◌, sym}
use Rattle.rank_runners.proofs.WholeTurns.{has_turn, turned_at_board, turned_on_memory}
use Rattle.rank_runners.proofs.runners.Runner.one_turn.Goals as goal

pub board_turn-requires : goal.board_turn-requires
board_turn-requires c = has_turn _ _ _ _ _ c.requires c.from.ensures c.index.ensures (sym c.needs_board.ensures
    ∙ c.if-needs_board.true)

pub data_turn-requires : goal.data_turn-requires
data_turn-requires c = has_turn _ _ _ _ _ c.requires c.from.ensures c.index.ensures (sym c.needs_board.ensures
    ∙ c.if-needs_board.false)

pub returns-in_ok-board_turn : goal.returns-in_ok-board_turn
returns-in_ok-board_turn c =
    turned_at_board c.args.self.now c.board_turn.new.self c.args.rank
    (has_turn _ _ _ _ _ c.requires c.from.ensures c.index.ensures (sym c.needs_board.ensures
    ∙ c.if-needs_board.true)) c.in_ok-board_turn.ensures

pub returns-in_ok-data_turn : goal.returns-in_ok-data_turn
returns-in_ok-data_turn c =
    turned_on_memory c.args.self.now c.data_turn.new.self c.args.rank
    (has_turn _ _ _ _ _ c.requires c.from.ensures c.index.ensures (sym c.needs_board.ensures
    ∙ c.if-needs_board.false)) c.in_ok-data_turn.ensures
