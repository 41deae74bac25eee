use Rattle.std.proofs.Common.{ap, sym, ◌∙◌, ◌≡◌, ◌+◌, ◌-◌, arith, ℕ, subst, Contains}
use Rattle.cell_words.specs.Holders.{SharedCells}
use Rattle.cell_words.specs.Views.{look}
use Rattle.cell_words.proofs.StepsKept.{attempts}
use Rattle.cell_words.proofs.cells.Cells.exchange.Goals as goal

pub compare_exchange-found-requires : goal.compare_exchange-found-requires
compare_exchange-found-requires c =
    let seat = c.args.seat.now in
    let cells = c.self.view_is in
    let words = ap (λ (is : SharedCells). is.table.words) cells in
    let cell : c.args.cell ≡ c.args.cell + 1 - 1 = omega arith in (
      c.requires.table ∙ sym (ap (λ (is : SharedCells). is.table) cells),
      omega (arith, c.requires.cell, words),
      rw c.word-old.ensures (attempts _ _ _ seat.id (c.args.cell + 1) c.args.new _ seat.me c.args.expected (omega arith)
          (omega (arith, c.requires.cell, words, c.self.invariant.0)) c.requires.share
          (subst (λ (n : ℕ). Contains seat.me.0.known (look n c.args.expected)) cell c.requires.expected)
          (λ small. (
            omega (arith, c.word-next.ensures, c.ranges.new, small),
            omega (arith, c.word-next.ensures, c.ranges.new, small),
          ))),
    )
