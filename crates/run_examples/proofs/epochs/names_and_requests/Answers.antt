-- Each run is computed.
use Rattle.std.specs.Fmt.{digits}
use Rattle.std.specs.Prelude.{refl}
use Rattle.run_texts.specs.Report.{report}
use Rattle.step_runs.specs.StepRun.{step_run}
use Rattle.run_examples.specs.Epochs.{HasItsOwnMemory, CompletesRequests}
use Rattle.run_examples.proofs.epochs.names_and_requests.Goals as goal

name_used_again : HasItsOwnMemory
unfolding step_run report digits
name_used_again = (refl, refl, refl)

two_requests : CompletesRequests
unfolding step_run report digits
two_requests = (refl, refl, refl)

pub returns : goal.returns
returns c = record { name_used_again = name_used_again; two_requests = two_requests }
