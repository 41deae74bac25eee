use Rattle.std.proofs.Common.{◌≡◌, ℕ, ◌<◌, eqb, false, get_or}
use Rattle.rma_types.specs.declared.scripts.CallBase.{CallBase}
use Rattle.sync_board.proofs.layouts.find_base.Given as goal

abbrev pub invariant-loop-one : goal.invariant-loop-one
invariant-loop-one l = (k : ℕ) (d : CallBase) → k < l.one-index → eqb (get_or l.bases k d).call l.number ≡ false
