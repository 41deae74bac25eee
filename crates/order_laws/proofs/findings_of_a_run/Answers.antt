-- Each clause is a theorem.
use Rattle.order_laws.proofs.Ascending.{ascend}
use Rattle.order_laws.proofs.OneList.{one_list}
use Rattle.order_laws.proofs.Pairs.{reads, least, complete}
use Rattle.order_laws.proofs.findings_of_a_run.Goals as goal

pub returns : goal.returns
returns c = record { one_list = one_list; ascending = ascend; reads = reads; least = least; complete = complete }
