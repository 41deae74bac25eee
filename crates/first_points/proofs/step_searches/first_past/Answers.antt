-- The step behind those up to the index.
use Rattle.std.proofs.Common.{◌∙◌}
use Rattle.first_points.proofs.TableSteps.{past_found}
use Rattle.first_points.proofs.step_searches.first_past.Goals as goal

pub returns : goal.returns
returns c = c.step_at.ensures ∙ past_found c.args.steps.now c.args.index c.steps_within.result
    c.steps_within.ensures.point c.steps_within.ensures.bound
