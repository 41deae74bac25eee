-- Each run and its order are computed.
use Rattle.std.specs.Prelude.{refl}
use Rattle.step_runs.specs.StepRun.{step_run}
use Rattle.order_examples.specs.Points.{IsDoneInLaterEpochs, IsDoneAtWaitAndComplete, IsDoneAtWait, IsDoneAtLocalFlush}
use Rattle.order_examples.specs.Points.{IsNotDoneAtLocalFlush, IsDoneAtItsRequest}
use Rattle.order_examples.proofs.points.done_points_of_each_kind.Goals as goal

later_epochs : IsDoneInLaterEpochs
unfolding step_run
later_epochs = refl

complete_of_a_get : IsDoneAtWaitAndComplete
unfolding step_run
complete_of_a_get = refl

complete_of_a_put : IsDoneAtWait
unfolding step_run
complete_of_a_put = refl

local_flush_of_a_get : IsDoneAtLocalFlush
unfolding step_run
local_flush_of_a_get = refl

local_flush_of_a_put : IsNotDoneAtLocalFlush
unfolding step_run
local_flush_of_a_put = refl

request : IsDoneAtItsRequest
unfolding step_run
request = refl

pub returns : goal.returns
returns c = record {
  later_epochs = later_epochs;
  complete_of_a_get = complete_of_a_get;
  complete_of_a_put =
      complete_of_a_put;
  local_flush_of_a_get = local_flush_of_a_get;
  local_flush_of_a_put = local_flush_of_a_put;
  request
      = request;
}
