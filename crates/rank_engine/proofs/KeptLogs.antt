-- A step adds to the log's end.
use Rattle.std.proofs.Common.{◌≡◌, inl, inr, List, [], ◌∷◌, Result, Ok, Err, sym, ◌∙◌, subst}
use Rattle.std.specs.Prelude.{OnErr}
use Rattle.std.proofs.lemmas.List.{append-nil}
use Rattle.rma_record.specs.declared.items.Item.{Item}
use Rattle.rma_record.specs.declared.items.Item.TheVariants.{Refused}
use Rattle.rank_engine.proofs.RefusalItems.{Outcome}
use Rattle.step_runs.specs.Agents.{Agent}
use Rattle.rank_engine.specs.KeptItems.{KeepsItems}

pub keeps_same : (log next : List Item) → next ≡ log → KeepsItems log next
keeps_same log next same = ([], same ∙ sym (append-nil log))

pub keeps_outcome : (agent next : Agent) → Outcome agent next → KeepsItems agent.log next.log
keeps_outcome agent next (inl adds) = (adds.items, adds.more)
keeps_outcome agent next (inr refuses) = (Refused agent.at refuses.class refuses.seen ∷ [], refuses.log)

pub keeps_on_err : {X E : Type 0} (result : Result X E) (log next : List Item) → KeepsItems log next →
    OnErr result (KeepsItems log next)
keeps_on_err (Ok x) log next front = tt
keeps_on_err (Err e) log next front = front

pub keeps_then_same : (log between next : List Item) → KeepsItems log between → next ≡ between → KeepsItems log next
keeps_then_same log between next front same = subst (KeepsItems log) (sym same) front
