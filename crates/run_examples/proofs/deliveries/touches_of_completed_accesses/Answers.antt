-- Each run is computed.
use Rattle.std.specs.Fmt.{digits}
use Rattle.std.specs.Prelude.{refl}
use Rattle.run_texts.specs.Report.{report}
use Rattle.step_runs.specs.StepRun.{step_run}
use Rattle.run_examples.specs.Deliveries.{CompletesByUnlocksAndFlushes, CompletesRequestedGets, LeavesTheRequestedPut}
use Rattle.run_examples.specs.Deliveries.{CompletesByComplete, LeavesThePutToAnother}
use Rattle.run_examples.proofs.deliveries.touches_of_completed_accesses.Goals as goal

locks_and_flush : CompletesByUnlocksAndFlushes
unfolding step_run report digits
locks_and_flush = (refl, refl, refl)

requested_gets : CompletesRequestedGets
unfolding step_run report digits
requested_gets = (refl, refl, refl)

requested_put : LeavesTheRequestedPut
unfolding step_run report digits
requested_put = (refl, refl, refl)

started_put : CompletesByComplete
unfolding step_run report digits
started_put = (refl, refl, refl)

flush_of_another : LeavesThePutToAnother
unfolding step_run report digits
flush_of_another = (refl, refl, refl)

pub returns : goal.returns
returns c = record {
  locks_and_flush = locks_and_flush;
  requested_gets = requested_gets;
  requested_put = requested_put;
  started_put = started_put;
  flush_of_another = flush_of_another;
}
