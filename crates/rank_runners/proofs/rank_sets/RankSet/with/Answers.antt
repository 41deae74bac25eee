use Rattle.list_laws.proofs.Numbers.{bit_more}
use Rattle.rank_runners.proofs.rank_sets.RankSet.with.Goals as goal

pub returns : goal.returns
returns c = λ other. bit_more c.args.self.bits c.args.rank other c.requires
