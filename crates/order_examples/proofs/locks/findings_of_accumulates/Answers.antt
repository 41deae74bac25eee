-- Each run and its order are computed.
use Rattle.std.specs.Prelude.{refl}
use Rattle.step_runs.specs.StepRun.{step_run}
use Rattle.order_rules.specs.Findings.{findings}
use Rattle.order_examples.specs.Locks.{FindsNoneOfSums, FindsOtherOperations, FindsOtherDatatypes}
use Rattle.order_examples.specs.Locks.{FindsNoneOfAReadBesideASum}
use Rattle.order_examples.proofs.locks.findings_of_accumulates.Goals as goal

sums : FindsNoneOfSums
unfolding step_run findings
sums = refl

operations : FindsOtherOperations
unfolding step_run findings
operations = refl

datatypes : FindsOtherDatatypes
unfolding step_run findings
datatypes = refl

read : FindsNoneOfAReadBesideASum
unfolding step_run findings
read = refl

pub returns : goal.returns
returns c = record { sums = sums; operations = operations; datatypes = datatypes; read = read }
