-- The earlier of the first steps with the two keys of the access.
use Rattle.std.proofs.Common.{◌∙◌}
use Rattle.std.specs.Prelude.{nat_lt}
use Rattle.rank_records.specs.declared.kept.KeptStep.{KeptStep}
use Rattle.first_points.specs.Keys.{earlier_of}
use Rattle.first_points.proofs.TableSteps.{sought_found}
use Rattle.first_points.proofs.step_searches.StepSearches.first_after.Goals as goal

pub returns : goal.returns
returns c =
    c.earlier.ensures
    ∙ (λ i. earlier_of (c.first_past.ensures i) (c.first_past-2.ensures i))
    ∙ sought_found c.args.self.now c.requires c.args.access.now.id.rank c.args.sought c.args.access.now
    c.from-target.result c.from-target.ensures (λ (k : KeptStep). nat_lt c.args.access.now.id.index k.id.index)
    c.steps_with-all.result.now c.steps_with-some.result.now c.steps_with-all.ensures.steps
    c.steps_with-some.ensures.steps
