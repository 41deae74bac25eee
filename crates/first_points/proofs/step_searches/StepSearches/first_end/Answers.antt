-- The first step with the key of the call.
use Rattle.std.proofs.Common.{ap, ◌∙◌}
use Rattle.std.specs.Prelude.{nat_lt}
use Rattle.std.specs.List.{find}
use Rattle.rank_records.specs.declared.kept.KeptStep.{KeptStep}
use Rattle.first_points.specs.KeptPoints.{kept_steps}
use Rattle.first_points.specs.Tables.{searched}
use Rattle.first_points.proofs.TableSteps.{end_found}
use Rattle.first_points.proofs.step_searches.StepSearches.first_end.Goals as goal

pub returns : goal.returns
returns c =
    c.first_past.ensures
    ∙ ap (find (λ (k : KeptStep). nat_lt c.args.access.now.id.index k.id.index)) c.steps_with.ensures.steps
    ∙ end_found c.args.self.now.script.now c.args.access.now
    (λ (k : KeptStep). nat_lt c.args.access.now.id.index k.id.index)
    (kept_steps (searched c.args.self.now) c.args.access.now.id.rank)
