-- The steps up to the access are left out.
use Rattle.std.proofs.Common.{List, ap, sym, ◌∙◌}
use Rattle.std.specs.Prelude.{◌&&◌, nat_lt}
use Rattle.std.specs.List.{find}
use Rattle.std.proofs.lemmas.List.{take_rest}
use Rattle.rank_records.specs.declared.kept.KeptStep.{KeptStep}
use Rattle.first_points.specs.KeptPoints.{is_sought}
use Rattle.first_points.proofs.Parted.{found_after}
use Rattle.first_points.proofs.searches.first_after.Goals as goal

pub returns : goal.returns
returns c =
    c.first_sought.ensures
    ∙ ap (find (is_sought c.args.script.now c.args.sought c.args.access.now))
    (take_rest c.steps_at-steps.result.now c.steps_within-from.result)
    ∙ sym (found_after (is_sought c.args.script.now c.args.sought c.args.access.now) c.steps_at-steps.result.now
    c.args.access.now.id.index c.steps_within-from.result c.steps_within-from.ensures.point
    c.steps_within-from.ensures.bound)
    ∙ ap (λ (steps : List KeptStep). find (λ (k : KeptStep). nat_lt c.args.access.now.id.index k.id.index
    && is_sought c.args.script.now c.args.sought c.args.access.now k) steps) c.steps_at-steps.ensures
