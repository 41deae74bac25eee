-- The clause is a theorem.
use Rattle.step_laws.proofs.Draining.{run_is_drained}
use Rattle.step_laws.proofs.step_run_delivers_all.Goals as goal

pub returns : goal.returns
returns c = run_is_drained
