use mir.Syntax.{w32, w64}
use mir.Val.{SFits, of_z, to_z}
use Rattle.std.proofs.Common.{◌≡◌, ℕ, ℤ, ◌*◌, not, refl, ap, sym, ◌∙◌, rules}
use Rattle.std.proofs.Math.Facts.{to_z-of_z}
use Rattle.rma_types.specs.declared.classes.Class.TheVariants.{Range as RangeClass}
use Rattle.rma_types.specs.declared.actions.Action.TheVariants.{Moves}
use Rattle.call_rules.specs.Ranks.{natural}
use Rattle.call_rules.specs.Transfers.{bytes_of, rank_reached}
use Rattle.board_rules.specs.Board.{refuse_if}
use Rattle.sync_board.specs.Sides.{done_at}
use Rattle.sync_board.proofs.Judged.{allowed, reaches_is, refused}
use Rattle.sync_board.proofs.window_record.WindowRecord.judge_look_up.Goals as goal

as_read : (z : ℤ) (r : ℕ) → SFits w32 z → r ≡ natural (to_z w32 (of_z w32 z)) → natural z ≡ r
as_read z r fits is = ap natural (sym (to_z-of_z fits)) ∙ sym is

as_read_long : (z : ℤ) (r : ℕ) → SFits w64 z → r ≡ natural (to_z w64 (of_z w64 z)) → natural z ≡ r
as_read_long z r fits is = ap natural (sym (to_z-of_z fits)) ∙ sym is

pub returns-then-covers : goal.returns-then-covers
returns-then-covers c = λ layout q rank is kept.
    let t = c.args.transfer.now in
    let target = ap (λ r. rank_reached r t.target) rank ∙ sym c.reached-target.ensures in
    let lo = as_read t.disp c.natural-lo.result (search rules) c.natural-lo.ensures in
    let count = as_read_long t.count c.few_elements-elements.result (search rules)
    c.few_elements-elements.ensures.value in
    let len : bytes_of t ≡ c.few_elements-elements.result * c.size-size.result = rw (count, c.size-size.ensures) refl in
    allowed q (Moves t) is
    (ap (λ b. refuse_if (not b) RangeClass)
    (reaches_is q t c.reached-target.result c.natural-lo.result (c.few_elements-elements.result * c.size-size.result)
    target lo len ∙ (sym (c.covers.ensures (done_at q) kept.regions) ∙ c.if-covers.true)))
    refl

pub returns-else-covers : goal.returns-else-covers
returns-else-covers c = λ layout q rank is kept.
    let t = c.args.transfer.now in
    let target = ap (λ r. rank_reached r t.target) rank ∙ sym c.reached-target.ensures in
    let lo = as_read t.disp c.natural-lo.result (search rules) c.natural-lo.ensures in
    let count = as_read_long t.count c.few_elements-elements.result (search rules)
    c.few_elements-elements.ensures.value in
    let len : bytes_of t ≡ c.few_elements-elements.result * c.size-size.result = rw (count, c.size-size.ensures) refl in
    refused q (Moves t) RangeClass is
    (ap (λ b. refuse_if (not b) RangeClass)
    (reaches_is q t c.reached-target.result c.natural-lo.result (c.few_elements-elements.result * c.size-size.result)
    target lo len ∙ (sym (c.covers.ensures (done_at q) kept.regions) ∙ c.if-covers.false)))
