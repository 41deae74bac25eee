-- What may be asked by any layout may be asked by that of the board.
use Rattle.std.proofs.Common.{subst, sym}
use Rattle.sync_board.specs.Boards.{MayAsk}
use Rattle.board_tests.proofs.steps.ask.Goals as goal

pub decide-requires-clause-asked : goal.decide-requires-clause-asked
decide-requires-clause-asked c =
    subst (λ n. MayAsk n c.args.board.now.layout
    (record { rank = c.args.rank; number = c.args.number; call = c.args.call.now; step = c.args.step }))
    (sym c.requires.ranks) (c.is_asked.ensures (search) c.args.board.now.layout)
