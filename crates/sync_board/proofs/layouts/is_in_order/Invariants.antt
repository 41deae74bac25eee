use Rattle.std.proofs.Common.{◌≤◌}
use Rattle.std.specs.List.{AllAdjacentBelow}
use Rattle.rma_types.specs.declared.scripts.CallBase.{CallBase}
use Rattle.sync_board.proofs.layouts.is_in_order.Given as goal

abbrev pub invariant-loop-at : goal.invariant-loop-at
invariant-loop-at l = AllAdjacentBelow (λ (a : CallBase) (b : CallBase). a.call ≤ b.call) l.bases l.at
