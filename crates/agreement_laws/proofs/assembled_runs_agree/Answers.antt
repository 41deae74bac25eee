-- The clause is a theorem.
use Rattle.agreement_laws.proofs.Agreement.{agree}
use Rattle.agreement_laws.proofs.assembled_runs_agree.Goals as goal

pub returns : goal.returns
returns c = agree
