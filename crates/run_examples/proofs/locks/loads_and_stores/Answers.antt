-- Each run is computed.
use Rattle.std.specs.Fmt.{digits}
use Rattle.std.specs.Prelude.{refl}
use Rattle.run_texts.specs.Report.{report}
use Rattle.step_runs.specs.StepRun.{step_run}
use Rattle.run_examples.specs.Locks.{ReportsTheLoad, LoadsAfterASync, ReportsTheStore}
use Rattle.run_examples.proofs.locks.loads_and_stores.Goals as goal

load_without_sync : ReportsTheLoad
unfolding step_run report digits
load_without_sync = (refl, refl, refl)

load_after_sync : LoadsAfterASync
unfolding step_run report digits
load_after_sync = (refl, refl, refl)

store_beside_a_put : ReportsTheStore
unfolding step_run report digits
store_beside_a_put = (refl, refl, refl)

pub returns : goal.returns
returns c = record {
  load_without_sync = load_without_sync;
  load_after_sync = load_after_sync;
  store_beside_a_put =
      store_beside_a_put;
}
