-- The updates that are taken fit, since all touches do.
use Rattle.std.proofs.Common.{ap, subst, sym, ◌∙◌}
use Rattle.std.specs.Prelude.{IfSome}
use Rattle.list_laws.proofs.Each.{each_kept}
use Rattle.call_rules.specs.Elements.{Fits}
use Rattle.lawful_runs.specs.Accesses.{Touching, is_on_cell, is_update, on_cell}
use Rattle.vector_clocks.specs.Marks.{before_in}
use Rattle.cell_replay.specs.Kept.{DoFit, touchings_of}
use Rattle.cell_replay.proofs.reads.left_before.Goals as goal

pub state_of-requires : goal.state_of-requires
state_of-requires c =
    let touches = touchings_of c.args.touches.now in
    let fits : Touching → Type 0 = λ touch. IfSome touch.change Fits in
    let on = each_kept fits (is_on_cell c.args.cell) touches c.requires in
    let updates = each_kept fits is_update (on_cell c.args.cell touches) on in
    let taken = subst DoFit (sym (ap touchings_of c.as_slice.ensures.value ∙ c.in_ok-updates.ensures)) updates in
    let earlier = each_kept fits (λ update. before_in c.args.clocks.now update.id c.args.id)
    (touchings_of c.as_slice.result.now) taken in
    subst DoFit (sym (ap touchings_of c.as_slice-2.ensures.value ∙ c.in_ok-earlier.ensures)) earlier
