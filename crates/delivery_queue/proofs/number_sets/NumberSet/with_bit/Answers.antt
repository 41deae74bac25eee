use Rattle.list_laws.proofs.Numbers.{bit_more}
use Rattle.delivery_queue.proofs.number_sets.NumberSet.with_bit.Goals as goal

pub returns : goal.returns
returns c = λ other. bit_more c.args.self.bits c.args.bit other c.requires
