use Rattle.std.proofs.Common.{ap, sym, ◌∙◌, arith}
use Rattle.cell_words.specs.Holders.{SharedCells}
use Rattle.cell_words.proofs.StepsKept.{notes}
use Rattle.cell_words.proofs.cells.Cells.copy_lows.Goals as goal

pub split_seat-requires : goal.split_seat-requires
split_seat-requires c = let seat = c.args.seat.now in (
  c.requires.table ∙ sym (ap (λ (cells : SharedCells). cells.table) c.self.view_is),
  omega (arith, c.self.invariant.0),
  notes _ _ seat.id seat.me.0,
)
