-- The steps of a rank stand in the order of its log, and so do those with a key.
use Rattle.std.proofs.Common.{◌≡◌, List, Some, ap, subst, sym, ◌∙◌}
use Rattle.std.specs.Prelude.{slice_get}
use Rattle.std.specs.List.{filter}
use Rattle.std.proofs.lemmas.Option.{slice_get-get_or, slice_get_past}
use Rattle.rank_records.specs.declared.kept.KeptStep.{KeptStep}
use Rattle.first_points.specs.KeptPoints.{AreAscending}
use Rattle.first_points.specs.Keys.{StepTable, has_key, listed_at}
use Rattle.first_points.specs.Tables.{HasItsSteps}
use Rattle.first_points.proofs.Picked.{ascending_filter}
use Rattle.first_points.proofs.TableSteps.{has_steps, none_kept}
use Rattle.first_points.proofs.step_searches.StepSearches.steps_with.Goals as goal

pub returns-in-Some-clause-order : goal.returns-in-Some-clause-order
returns-in-Some-clause-order c =
    let there : slice_get c.args.self.now.ranks.items c.args.rank ≡ Some c.in-Some.rank.now =
    ap (λ list. slice_get list c.args.rank) (sym c.deref.ensures.value)
    ∙ slice_get-get_or c.deref.result.now c.args.rank c.in-Some.rank.now c.in-Some.ensures.lookup.3.0
    ∙ sym (ap Some (c.in-Some.ensures.lookup.3.1 c.in-Some.rank.now)) in
    let has : HasItsSteps c.args.self.now.script.now c.in-Some.rank.now =
    has_steps c.args.self.now c.requires c.args.rank c.in-Some.rank.now there in
    subst (λ (list : List KeptStep). AreAscending list)
    (sym (c.steps_for.ensures ∙ ap (λ (t : StepTable). listed_at t c.args.key) c.table_at.ensures
    ∙ has.steps c.args.aim c.args.key))
    (ascending_filter (has_key c.args.self.now.script.now c.args.aim c.args.key) c.in-Some.rank.now.kept.now.steps
    has.order)

pub returns-in-None-clause-steps : goal.returns-in-None-clause-steps
returns-in-None-clause-steps c =
    sym (ap (filter (has_key c.args.self.now.script.now c.args.aim c.args.key))
    (none_kept c.args.self.now c.args.rank
    (ap (λ list. slice_get list c.args.rank) (sym c.deref.ensures.value)
    ∙ slice_get_past c.deref.result.now c.args.rank c.in-None.ensures.lookup.3)))
