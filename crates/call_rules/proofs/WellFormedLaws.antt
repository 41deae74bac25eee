-- Laws of the definitions.
use Rattle.std.proofs.Common.{IfSome}
use Rattle.rma_types.specs.Actions.{transfer_in}
use Rattle.rma_types.specs.declared.actions.Action.{Action}
use Rattle.rma_types.specs.declared.actions.Action.TheVariants.{Creates, Frees, Attaches, Detaches, Synchronises, Meets}
use Rattle.rma_types.specs.declared.actions.Action.TheVariants.{Moves, EndsRequest}
use Rattle.call_rules.specs.WellFormed.{IsWrittenAction, IsWrittenTransfer}

pub written_in : (action : Action) → IsWrittenAction action → IfSome (transfer_in action) IsWrittenTransfer
written_in (Creates creation) w = tt
written_in (Frees win) w = tt
written_in (Attaches win base bytes) w = tt
written_in (Detaches win base) w = tt
written_in (Synchronises win synchronisation) w = tt
written_in Meets w = tt
written_in (Moves transfer) w = w
written_in (EndsRequest req) w = tt
