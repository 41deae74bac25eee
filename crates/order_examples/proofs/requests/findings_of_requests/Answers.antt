-- Each run and its order are computed.
use Rattle.std.specs.Prelude.{refl}
use Rattle.step_runs.specs.StepRun.{step_run}
use Rattle.order_rules.specs.Findings.{findings}
use Rattle.order_examples.specs.Requests.{FindsTheRequestedPut, FindsNoneAfterRequestedGets}
use Rattle.order_examples.proofs.requests.findings_of_requests.Goals as goal

put : FindsTheRequestedPut
unfolding step_run findings
put = refl

gets : FindsNoneAfterRequestedGets
unfolding step_run findings
gets = refl

pub returns : goal.returns
returns c = record { put = put; gets = gets }
