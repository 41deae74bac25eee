use Rattle.std.proofs.Common.{◌≡◌, take}
use Rattle.call_rules.specs.Ranks.{members_of}
use Rattle.rank_epochs.proofs.ranks.members_of.Given as goal

-- the members of the group so far
abbrev pub invariant-loop-rank : goal.invariant-loop-rank
invariant-loop-rank l = l.ranks.items ≡ members_of (take l.rank-index l.group)
