use Rattle.std.proofs.Common.{ap, sym, ◌∙◌, ◌+◌, arith}
use Rattle.cell_words.specs.Holders.{SharedCells}
use Rattle.cell_words.proofs.StepsKept.{looks}
use Rattle.cell_words.proofs.cells.Cells.look.Goals as goal

pub load-requires : goal.load-requires
load-requires c =
    let seat = c.args.seat.now in
    let cells = c.self.view_is in
    let words = ap (λ (is : SharedCells). is.table.words) cells in (
      c.requires.table ∙ sym (ap (λ (is : SharedCells). is.table) cells),
      omega (arith, c.requires.cell, words),
      looks _ _ _ seat.id (c.args.cell + 1) seat.me (omega arith)
          (omega (arith, c.requires.cell, words, c.self.invariant.0)),
    )
