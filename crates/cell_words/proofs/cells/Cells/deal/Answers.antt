use Rattle.std.proofs.Common.{ap, sym, ◌∙◌, arith}
use Rattle.cell_words.specs.Holders.{SharedCells}
use Rattle.cell_words.proofs.StepsKept.{deals}
use Rattle.cell_words.proofs.cells.Cells.deal.Goals as goal

pub split_seat-requires : goal.split_seat-requires
split_seat-requires c = let seat = c.args.seat.now in (
  c.requires.table ∙ sym (ap (λ (cells : SharedCells). cells.table) c.self.view_is),
  omega (arith, c.self.invariant.0),
  deals _ _ seat.id seat.me.0,
)
