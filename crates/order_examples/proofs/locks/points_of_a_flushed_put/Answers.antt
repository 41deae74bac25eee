-- Each run and its order are computed.
use Rattle.std.specs.Prelude.{refl}
use Rattle.step_runs.specs.StepRun.{step_run}
use Rattle.order_rules.specs.Findings.{findings}
use Rattle.order_examples.specs.Locks.{IsDoneByFlushAndUnlock, IsVisibleAtTheSync, ReachesTheLeaveOfABarrier}
use Rattle.order_examples.proofs.locks.points_of_a_flushed_put.Goals as goal

done : IsDoneByFlushAndUnlock
unfolding step_run findings
done = refl

visible : IsVisibleAtTheSync
unfolding step_run findings
visible = refl

before : ReachesTheLeaveOfABarrier
unfolding step_run findings
before = (refl, refl)

pub returns : goal.returns
returns c = record { done = done; visible = visible; before = before }
