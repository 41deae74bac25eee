-- What it gains is there exactly where something is gained.
use Rattle.std.proofs.Common.{◌≡◌, ℕ, List, [], ◌∷◌, ◌++◌, ap, sym, subst, ◌∙◌}
use Rattle.std.specs.Prelude.{is_some}
use Rattle.kept_rows.specs.Gifts.{Front, Given}
use Rattle.kept_rows.specs.KeptCalls.{kept_row}
use Rattle.entry_gains.specs.ByPlace.{KeepsInOrder, front_of}
use Rattle.vector_clocks.specs.Rows.{row_placed}
use Rattle.every_point.proofs.Marked.{some_mapped}
use Rattle.every_point.proofs.edges.enter.Goals as goal

pub returns : goal.returns
returns c = λ ranks entries coming kept. record {
  gained = c.is_some.ensures ∙ sym (some_mapped front_of c.in_ok-gained.gained)
      ∙ ap is_some (c.in_ok-gained.ensures.gains ranks entries c.args.one.call coming kept);
  kept = subst (λ gift. KeepsInOrder ranks
      (entries ++ record { row = kept_row (row_placed c.args.one c.args.call.now); gift = gift } ∷ []) c.enter.new.self)
      c.mark_for-gift.ensures (c.in_ok-gained.ensures.keeps ranks entries c.args.one.call coming kept);
}
