-- The earlier of the first steps with the two keys of the access.
use Rattle.std.proofs.Common.{◌∙◌}
use Rattle.vector_clocks.specs.Marks.{before_in}
use Rattle.rank_records.specs.declared.kept.KeptStep.{KeptStep}
use Rattle.first_points.specs.Alike.{reaches}
use Rattle.first_points.specs.Keys.{earlier_of}
use Rattle.first_points.proofs.TableSteps.{sought_found}
use Rattle.first_points.proofs.step_searches.StepSearches.first_reached.Goals as goal

pub returns : goal.returns
returns c =
    c.earlier.ensures
    ∙ (λ i. earlier_of (c.first_beyond.ensures i) (c.first_beyond-2.ensures i))
    ∙ sought_found c.args.self.now c.requires c.args.access.now.access.target c.args.sought c.args.access.now
    c.from-target.result c.from-target.ensures
    (λ (k : KeptStep). reaches (before_in c.args.clocks.now) c.args.points.now k.id)
    c.steps_with-all.result.now c.steps_with-some.result.now c.steps_with-all.ensures.steps
    c.steps_with-some.ensures.steps
