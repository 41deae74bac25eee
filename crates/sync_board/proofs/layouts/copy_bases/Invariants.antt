use Rattle.std.proofs.Common.{◌≡◌, take}
use Rattle.sync_board.proofs.layouts.copy_bases.Given as goal

abbrev pub invariant-loop-of_rank : goal.invariant-loop-of_rank
invariant-loop-of_rank l = l.copy ≡ take l.of_rank-index l.bases
