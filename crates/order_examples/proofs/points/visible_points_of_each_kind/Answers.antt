-- Each run and its order are computed.
use Rattle.std.specs.Prelude.{refl}
use Rattle.step_runs.specs.StepRun.{step_run}
use Rattle.order_examples.specs.Points.{IsTakenIn, IsGivenOut, IsVisibleWhereDone}
use Rattle.order_examples.proofs.points.visible_points_of_each_kind.Goals as goal

put : IsTakenIn
unfolding step_run
put = refl

store : IsGivenOut
unfolding step_run
store = refl

unified : IsVisibleWhereDone
unfolding step_run
unified = (refl, refl)

pub returns : goal.returns
returns c = record { put = put; store = store; unified = unified }
