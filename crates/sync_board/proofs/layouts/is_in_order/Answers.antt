use Rattle.std.proofs.Common.{arith}
use Rattle.std.proofs.lemmas.List.Sorted.{IsNonDecreasingBy-from_all_adjacent}
use Rattle.rma_types.specs.declared.scripts.CallBase.{CallBase}
use Rattle.sync_board.proofs.layouts.is_in_order.Goals as goal

pub returns : goal.returns
returns c = λ _. IsNonDecreasingBy-from_all_adjacent (λ (one : CallBase). one.call) c.args.bases.now
    (λ k d high. c.loop-at.invariant k d (omega arith))
