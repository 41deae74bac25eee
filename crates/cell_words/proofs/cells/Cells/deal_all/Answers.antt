use Rattle.std.proofs.Common.{◌≡◌, [], ap, sym, ◌∙◌, arith, length, drop}
use Rattle.atomic_table.specs.Table.{Me}
use Rattle.cell_words.specs.declared.views.View.{View}
use Rattle.cell_words.specs.Views.{fresh, zeros, next_dealt, head}
use Rattle.cell_words.proofs.Elements.{head_drop, length_zeros}
use Rattle.cell_words.proofs.cells.Cells.deal_all.Goals as goal

pub invariant_of-push : goal.invariant_of-push
invariant_of-push c =
    let init = c.args.self.now.init in
    let rest = drop c.loop-share.share-index c.args.shares.now in
    let now : c.deal-seat.result.me ≡ (fresh (zeros init) (head rest) [], []) = c.deal-seat.ensures.new_view
    ∙ ap (λ (m : Me (Unit {0}) View). (next_dealt m.0, [])) c.loop-share.invariant.view in
    let table = c.deal-seat.ensures.new_table ∙ c.loop-share.invariant.table in (
      omega (
        arith,
        ap (λ (m : Me (Unit {0}) View). length m.0.lows) now,
        length_zeros init,
        ap (λ t. t.words) table,
        c.requires.words,
      ),
      sym (ap (λ (m : Me (Unit {0}) View). m.0.share) now
          ∙ head_drop c.args.shares.now c.loop-share.share-index),
      ap (λ (m : Me (Unit {0}) View). m.0.deal) now,
      ap (λ (m : Me (Unit {0}) View). m.1) now,
    )
