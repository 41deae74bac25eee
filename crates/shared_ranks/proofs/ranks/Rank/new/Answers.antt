use Rattle.std.proofs.Common.{refl}
use Rattle.shared_ranks.proofs.Starts.{begins_as_rank}
use Rattle.shared_ranks.proofs.ranks.Rank.new.Goals as goal

pub returns-clause-begins : goal.returns-clause-begins
returns-clause-begins g c = begins_as_rank g.M.Memory.face g.M.Memory.knows _ refl
