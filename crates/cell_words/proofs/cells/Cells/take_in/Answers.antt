use Rattle.std.proofs.Common.{ap, sym, ◌∙◌, arith}
use Rattle.cell_words.specs.Holders.{SharedCells}
use Rattle.cell_words.proofs.StepsKept.{joins}
use Rattle.cell_words.proofs.cells.Cells.take_in.Goals as goal

pub join_seat-requires : goal.join_seat-requires
join_seat-requires c =
    let seat = c.args.seat.now in
    let table = sym (ap (λ (cells : SharedCells). cells.table) c.self.view_is) in (
      c.requires.table ∙ table,
      c.requires.other_table ∙ table,
      c.requires.free,
      omega (arith, c.self.invariant.0),
      joins _ _ seat.id seat.me.0 c.args.other.id c.args.other.me.0,
    )
