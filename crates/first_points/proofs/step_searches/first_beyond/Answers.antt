-- The step behind those which none of the points is before.
use Rattle.std.proofs.Common.{◌∙◌}
use Rattle.vector_clocks.specs.Marks.{before_in}
use Rattle.first_points.proofs.TableSteps.{beyond_found}
use Rattle.first_points.proofs.step_searches.first_beyond.Goals as goal

pub returns : goal.returns
returns c = c.step_at.ensures ∙ beyond_found (before_in c.args.clocks.now) c.args.points.now c.args.steps.now
    c.steps_unreached.result c.steps_unreached.ensures.point c.steps_unreached.ensures.bound
