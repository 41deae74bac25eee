-- Each run is computed.
use Rattle.std.specs.Fmt.{digits}
use Rattle.std.specs.Prelude.{refl}
use Rattle.run_texts.specs.Report.{report}
use Rattle.step_runs.specs.StepRun.{step_run}
use Rattle.run_examples.specs.Standing.{WaitInTwoCollectives, WaitsForTheKeptLock, EndsWithAnOpenLock}
use Rattle.run_examples.proofs.standing.ranks_that_wait.Goals as goal

barrier_and_fence : WaitInTwoCollectives
unfolding step_run report digits
barrier_and_fence = (refl, refl, refl)

kept_lock : WaitsForTheKeptLock
unfolding step_run report digits
kept_lock = (refl, refl, refl)

open_lock : EndsWithAnOpenLock
unfolding step_run report digits
open_lock = (refl, refl, refl)

pub returns : goal.returns
returns c = record { barrier_and_fence = barrier_and_fence; kept_lock = kept_lock; open_lock = open_lock }
