use Rattle.std.proofs.Common.{subst}
use Rattle.std.specs.List.{AllByRecursion}
use Rattle.sync_board.specs.Boards.{BoardState, IsGiftOfToken}
use Rattle.sync_board.proofs.BoardSteps.{gifts_are}
use Rattle.sync_board.proofs.board.Board.gifts_of_tokens.Goals as goal

pub returns : goal.returns
returns g c = subst (λ (b : BoardState). AllByRecursion (IsGiftOfToken g.N.Token.front) b.entries) c.self.view_is
    (gifts_are g.N.Token.front c.self.inside.list.rows.items c.self.inside.list.kept.items)
