-- The clause is a theorem.
use Rattle.step_laws.proofs.Bound as theorems
use Rattle.step_laws.proofs.step_run_ends.Goals as goal

pub returns : goal.returns
returns c = theorems.step_run_ends
