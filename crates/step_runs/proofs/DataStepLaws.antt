-- A delivery of the first access that is ready.
use Rattle.std.proofs.Common.{List, ◌≡◌, ◌∷◌, ap, Option, ◌∙◌, None, refl, Some}
use Rattle.std.specs.List.{remove}
use Rattle.std.specs.Option.{option_map_or}
use Rattle.std.specs.Prelude.{slice_get}
use Rattle.rma_types.specs.declared.actions.Transfer.{Transfer}
use Rattle.call_rules.specs.declared.cells.Cell.{Cell}
use Rattle.rank_rules.specs.declared.pending.PendingAccess.{PendingAccess}
use Rattle.lawful_runs.specs.Accesses.{transfer_at}
use Rattle.lawful_runs.specs.Stages.{Stage, calls_at}
use Rattle.step_runs.specs.Agents.{Agent}
use Rattle.step_runs.specs.DataSteps.{deliver, with_delivery, with_touches}

-- the first of the pending accesses is delivered, and the others are left
pub first_delivered : (stage : Stage) (agent : Agent) (cells : List Cell) (one : PendingAccess)
    (rest : List PendingAccess)
    → agent.pending ≡ one ∷ rest → (deliver stage agent cells 0).agent.pending ≡ rest
first_delivered stage agent cells one rest e =
    ap (λ (o : Option PendingAccess).
    (option_map_or (with_delivery stage agent cells 0) o (record { agent = agent; cells = cells })).agent.pending)
    (ap (λ (pending : List PendingAccess). slice_get pending 0) e)
    ∙ by (transfer_at (calls_at stage agent.rank) one.number)
    ∙ ap (λ (pending : List PendingAccess). remove pending 0) e
  where
    by : (o : Option Transfer) → (option_map_or
        (with_touches stage (record agent { pending = remove agent.pending 0 }) cells one) o
        (record { agent = record agent { pending = remove agent.pending 0 }; cells = cells })).agent.pending
        ≡ remove agent.pending 0
    by None = refl
    by (Some t) = refl
