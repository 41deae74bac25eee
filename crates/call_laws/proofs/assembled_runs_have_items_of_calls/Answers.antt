-- The clause is a theorem.
use Rattle.call_laws.proofs.CallLaws.{calls_are_lawful}
use Rattle.call_laws.proofs.assembled_runs_have_items_of_calls.Goals as goal

pub returns : goal.returns
returns c = record { calls = calls_are_lawful }
