use Rattle.std.proofs.Common.{◌≡◌, ℕ, ◌<◌, length, get_or, take, false}
use Rattle.call_rules.specs.Ranks.{is_member, members_of}
use Rattle.sync_board.proofs.truths.truths_of.Given as goal

abbrev pub invariant-loop-rank : goal.invariant-loop-rank
invariant-loop-rank l = record {
  length : length l.named ≡ 16;
  told : (k : ℕ) → k < 16 → get_or l.named k false ≡ is_member k (members_of (take l.rank-index l.ranks));
}
