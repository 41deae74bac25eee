-- Each run is computed.
use Rattle.std.specs.Fmt.{digits}
use Rattle.std.specs.Prelude.{refl}
use Rattle.run_texts.specs.Report.{report}
use Rattle.step_runs.specs.StepRun.{step_run}
use Rattle.run_examples.specs.Deliveries.{LoadsBeforeThePut, LoadsAfterThePut, DeliversWhatAWaitingRankPut}
use Rattle.run_examples.proofs.deliveries.late_touches.Goals as goal

late : LoadsBeforeThePut
unfolding step_run report digits
late = (refl, refl, refl)

at_once : LoadsAfterThePut
unfolding step_run report digits
at_once = (refl, refl, refl)

in_the_end : DeliversWhatAWaitingRankPut
unfolding step_run report digits
in_the_end = (refl, refl, refl)

pub returns : goal.returns
returns c = record { late = late; at_once = at_once; in_the_end = in_the_end }
