use Rattle.std.proofs.Common.{ℕ, ◌<◌, [], get_or}
use Rattle.sync_board.specs.KeptParts.{IsInOrder}
use Rattle.sync_board.proofs.layouts.are_in_order.Given as goal

abbrev pub invariant-loop-of_rank : goal.invariant-loop-of_rank
invariant-loop-of_rank l = (rank : ℕ) → rank < l.of_rank-index → IsInOrder (get_or l.bases rank [])
