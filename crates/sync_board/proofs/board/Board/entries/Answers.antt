use Rattle.std.proofs.Common.{ap, ◌∙◌, map}
use Rattle.sync_board.specs.Boards.{BoardState, entry_row}
use Rattle.sync_board.proofs.BoardSteps.{givens_rows}
use Rattle.sync_board.proofs.board.Board.entries.Goals as goal

pub returns : goal.returns
returns g c =
    c.as_slice.ensures.value ∙ (givens_rows g.N.Token.front c.self.inside.list.rows.items c.self.inside.list.kept.items
    c.self.invariant.sizes
    ∙ ap (λ (b : BoardState). map entry_row b.entries) c.self.view_is)
