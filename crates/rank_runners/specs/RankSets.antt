-- Sets of ranks.
use Rattle.std.specs.Prelude.{ℕ, Bool, ◌==◌}
use Rattle.std.specs.Int.{bit_at}
use Rattle.rank_runners.specs.declared.rank_sets.RankSet.{RankSet}

-- the rank is in the set
abbrev pub has : RankSet → ℕ → Bool
has set rank = bit_at set.bits rank == 1
