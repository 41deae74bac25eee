-- Each clause is a theorem.
use Rattle.order_laws.proofs.Delays.{drawn}
use Rattle.order_laws.proofs.Order.{transitive, agrees, edges_ascend}
use Rattle.order_laws.proofs.order_of_a_run.Goals as goal

pub returns : goal.returns
returns c = record { transitive = transitive; logs = agrees; ascending = edges_ascend; drawn = drawn }
