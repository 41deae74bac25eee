-- Each run and its order are computed.
use Rattle.std.specs.Prelude.{refl}
use Rattle.step_runs.specs.StepRun.{step_run}
use Rattle.order_rules.specs.Findings.{findings}
use Rattle.order_examples.specs.Locks.{FindsTwoPuts, FindsNoneAfterAFlush, FindsTheGetOfAPut, FindsNoneAfterTheGet}
use Rattle.order_examples.proofs.locks.findings_in_a_lock.Goals as goal

no_flush : FindsTwoPuts
unfolding step_run findings
no_flush = refl

flush_between : FindsNoneAfterAFlush
unfolding step_run findings
flush_between = refl

local_flush_of_a_put : FindsTheGetOfAPut
unfolding step_run findings
local_flush_of_a_put = refl

local_flush_of_a_get : FindsNoneAfterTheGet
unfolding step_run findings
local_flush_of_a_get = refl

pub returns : goal.returns
returns c = record {
  no_flush = no_flush;
  flush_between = flush_between;
  local_flush_of_a_put = local_flush_of_a_put;
  local_flush_of_a_get = local_flush_of_a_get;
}
