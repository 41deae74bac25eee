use Rattle.std.proofs.Common.{arith}
use Rattle.rank_runners.proofs.Sets.{in_neither}
use Rattle.rank_runners.proofs.rank_sets.RankSet.outside.Goals as goal

pub returns : goal.returns
returns c = λ rank h. in_neither c.args.self.bits c.args.other.bits rank (omega arith) (omega arith) h
