use Rattle.std.proofs.Common.{◌≡◌, ℕ, ◌≤◌, length}
use Rattle.sync_board.specs.KeptParts.{part_kept}
use Rattle.sync_board.proofs.parts.make_room.Given as goal

abbrev pub invariant-loop : goal.invariant-loop
invariant-loop l = record {
  long : l.counter ≤ length l.parts.items;
  same : (rank : ℕ) → part_kept l.parts.items rank ≡ part_kept l.fn.parts.items rank;
}
