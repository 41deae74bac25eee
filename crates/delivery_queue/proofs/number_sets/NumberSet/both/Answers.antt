use Rattle.delivery_queue.proofs.NumberBits.{both_sets}
use Rattle.delivery_queue.proofs.number_sets.NumberSet.both.Goals as goal

pub returns : goal.returns
returns c = λ number. both_sets c.args.self.bits c.args.other.bits number
