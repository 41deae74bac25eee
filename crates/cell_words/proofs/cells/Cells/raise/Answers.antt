use Rattle.std.proofs.Common.{ap, sym, ◌∙◌, ◌+◌, arith}
use Rattle.cell_words.specs.Holders.{SharedCells}
use Rattle.cell_words.proofs.StepsKept.{adds}
use Rattle.cell_words.proofs.cells.Cells.raise.Goals as goal

pub fetch_add-requires : goal.fetch_add-requires
fetch_add-requires c =
    let seat = c.args.seat.now in
    let cells = c.self.view_is in
    let words = ap (λ (is : SharedCells). is.table.words) cells in (
      c.requires.table ∙ sym (ap (λ (is : SharedCells). is.table) cells),
      omega (arith, c.requires.cell, words),
      rw c.word.ensures (adds _ _ _ seat.id (c.args.cell + 1) c.args.x seat.me (omega arith)
          (omega (arith, c.requires.cell, words, c.self.invariant.0)) c.requires.share c.ranges.x.fits),
    )
