-- The clause is a theorem.
use Rattle.rma_rules.proofs.Names.{follow}
use Rattle.rma_rules.proofs.numbers.numbers_follow.Goals as goal

pub returns : goal.returns
returns c = record { follow = follow }
