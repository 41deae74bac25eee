-- Each run is computed.
use Rattle.std.specs.Fmt.{digits}
use Rattle.std.specs.Prelude.{refl}
use Rattle.run_texts.specs.Report.{report}
use Rattle.step_runs.specs.StepRun.{step_run}
use Rattle.run_examples.specs.Locks.{ReportsTwoPuts, PutsAfterAFlush, ReportsTheGetOfAPut, GetsBeforeThePut}
use Rattle.run_examples.proofs.locks.accesses_in_a_lock.Goals as goal

no_flush : ReportsTwoPuts
unfolding step_run report digits
no_flush = (refl, refl, refl)

flush_between : PutsAfterAFlush
unfolding step_run report digits
flush_between = (refl, refl, refl)

local_flush_of_a_put : ReportsTheGetOfAPut
unfolding step_run report digits
local_flush_of_a_put = (refl, refl, refl)

local_flush_of_a_get : GetsBeforeThePut
unfolding step_run report digits
local_flush_of_a_get = (refl, refl, refl)

pub returns : goal.returns
returns c = record {
  no_flush = no_flush;
  flush_between = flush_between;
  local_flush_of_a_put = local_flush_of_a_put;
  local_flush_of_a_get = local_flush_of_a_get;
}
