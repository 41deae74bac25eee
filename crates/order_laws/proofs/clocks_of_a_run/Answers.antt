-- Each clause is a theorem.
use Rattle.order_laws.proofs.Decide.{clocks_decide}
use Rattle.order_laws.proofs.Stamps.{keep_laws}
use Rattle.order_laws.proofs.clocks_of_a_run.Goals as goal

pub returns : goal.returns
returns c = record { decide = clocks_decide; keep = keep_laws }
