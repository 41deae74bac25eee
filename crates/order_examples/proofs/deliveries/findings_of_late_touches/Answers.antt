-- Each run and its order are computed.
use Rattle.std.specs.Prelude.{refl}
use Rattle.step_runs.specs.StepRun.{step_run}
use Rattle.order_rules.specs.Findings.{findings}
use Rattle.order_examples.specs.Deliveries.{FindsTheLoadBeforeTheTouch, FindsTheLoadAfterTheTouch}
use Rattle.order_examples.specs.Deliveries.{FindsNoneWhereRanksWait}
use Rattle.order_examples.proofs.deliveries.findings_of_late_touches.Goals as goal

touched_late : FindsTheLoadBeforeTheTouch
unfolding step_run findings
touched_late = refl

touched_at_once : FindsTheLoadAfterTheTouch
unfolding step_run findings
touched_at_once = refl

standing : FindsNoneWhereRanksWait
unfolding step_run findings
standing = refl

pub returns : goal.returns
returns c = record { touched_late = touched_late; touched_at_once = touched_at_once; standing = standing }
