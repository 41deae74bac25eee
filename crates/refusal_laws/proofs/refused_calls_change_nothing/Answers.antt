-- The clause is a theorem.
use Rattle.refusal_laws.proofs.Refusals.{change_nothing}
use Rattle.refusal_laws.proofs.refused_calls_change_nothing.Goals as goal

pub returns : goal.returns
returns c = change_nothing
