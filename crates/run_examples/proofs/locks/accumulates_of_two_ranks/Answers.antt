-- Each run is computed.
use Rattle.std.specs.Fmt.{digits}
use Rattle.std.specs.Prelude.{refl}
use Rattle.run_texts.specs.Report.{report}
use Rattle.step_runs.specs.StepRun.{step_run}
use Rattle.run_examples.specs.Locks.{AddsBothSums, ReportsOtherOperations, ReportsOtherDatatypes, ReadsBesideASum}
use Rattle.run_examples.proofs.locks.accumulates_of_two_ranks.Goals as goal

sums : AddsBothSums
unfolding step_run report digits
sums = (refl, refl, refl)

operations : ReportsOtherOperations
unfolding step_run report digits
operations = (refl, refl, refl)

datatypes : ReportsOtherDatatypes
unfolding step_run report digits
datatypes = (refl, refl, refl)

read : ReadsBesideASum
unfolding step_run report digits
read = (refl, refl, refl)

pub returns : goal.returns
returns c = record { sums = sums; operations = operations; datatypes = datatypes; read = read }
