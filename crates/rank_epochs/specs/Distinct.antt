-- Distinct ranks: a run has at most 16.
use Rattle.std.specs.Prelude.{ℕ, Bool, true, not, ◌&&◌, nat_lt, List, [], ◌∷◌}
use Rattle.call_rules.specs.Ranks.{is_member}
use Rattle.rank_rules.specs.Epochs.{AccessEpoch, Idle, FenceUnused, FenceUsed, StartTo, LocksAt, LockAll}

-- ranks below 16, none of them twice
abbrev pub are_distinct_ranks : List ℕ → Bool
are_distinct_ranks [] = true
are_distinct_ranks (rank ∷ ranks) = nat_lt rank 16 && not (is_member rank ranks) && are_distinct_ranks ranks

-- no target is locked twice
abbrev pub has_distinct_targets : AccessEpoch → Bool
has_distinct_targets Idle = true
has_distinct_targets FenceUnused = true
has_distinct_targets FenceUsed = true
has_distinct_targets (StartTo group) = true
has_distinct_targets (LocksAt targets) = are_distinct_ranks targets
has_distinct_targets LockAll = true
