-- Each clause is a theorem.
use Rattle.step_histories.proofs.Assembled as theorems
use Rattle.step_histories.proofs.step_run_is_assembled.Goals as goal

pub returns : goal.returns
returns c = record {
  assembled = theorems.step_run_is_assembled;
  lawful = theorems.step_run_is_lawful
      c.assembled_runs_are_lawful.ensures.lawful;
}
