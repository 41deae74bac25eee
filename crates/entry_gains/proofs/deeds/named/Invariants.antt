use Rattle.std.proofs.Common.{◌≡◌, ℕ, ◌<◌, take, false}
use Rattle.std.specs.Prelude.{slice_index_or}
use Rattle.call_rules.specs.Ranks.{is_member, members_of}
use Rattle.entry_gains.proofs.deeds.named.Given as goal

abbrev pub invariant-loop-member : goal.invariant-loop-member
invariant-loop-member l = (rank : ℕ) → rank < 16 →
    slice_index_or l.named rank false ≡ is_member rank (members_of (take l.member-index l.group))
