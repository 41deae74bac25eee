-- Each run and its order are computed.
use Rattle.std.specs.Prelude.{refl}
use Rattle.step_runs.specs.StepRun.{step_run}
use Rattle.order_rules.specs.Findings.{findings}
use Rattle.order_examples.specs.Locks.{FindsTheLoad, FindsNoneAfterASync, FindsTheStore, FindsNoStoreWhereUnified}
use Rattle.order_examples.proofs.locks.findings_of_loads_and_stores.Goals as goal

load_without_sync : FindsTheLoad
unfolding step_run findings
load_without_sync = refl

load_after_sync : FindsNoneAfterASync
unfolding step_run findings
load_after_sync = refl

store_beside_a_put : FindsTheStore
unfolding step_run findings
store_beside_a_put = refl

store_where_unified : FindsNoStoreWhereUnified
unfolding step_run findings
store_where_unified = refl

pub returns : goal.returns
returns c = record {
  load_without_sync = load_without_sync;
  load_after_sync = load_after_sync;
  store_beside_a_put =
      store_beside_a_put;
  store_where_unified = store_where_unified;
}
