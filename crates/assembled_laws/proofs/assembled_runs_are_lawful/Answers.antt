-- The clause is a theorem.
use Rattle.assembled_laws.proofs.Lawful.{runs_are_lawful}
use Rattle.assembled_laws.proofs.assembled_runs_are_lawful.Goals as goal

pub returns : goal.returns
returns c = record { lawful = runs_are_lawful }
