-- The windows that were made only grow.
use Rattle.std.proofs.Common.{ℕ, List, ◌≡◌, ◌++◌, ◌∷◌, [], refl, sym}
use Rattle.std.proofs.lemmas.List.{append-nil}
use Rattle.std.specs.Option.{option_map_or}
use Rattle.rma_types.proofs.ActionLaws.{name_made}
use Rattle.rma_types.specs.Actions.{action_of, creation_in}
use Rattle.rma_types.specs.declared.actions.Action.{Action}
use Rattle.rma_types.specs.declared.actions.Action.TheVariants.{Creates, Frees, Attaches, Detaches, Synchronises, Meets}
use Rattle.rma_types.specs.declared.actions.Action.TheVariants.{Moves, EndsRequest}
use Rattle.rma_types.specs.declared.actions.Creation.{Creation}
use Rattle.rma_types.specs.declared.calls.Call.{Call}
use Rattle.rma_types.specs.declared.scripts.Part.{Part}
use Rattle.rank_rules.specs.Windows.{RankWindows, windows_after}

pub created_grows : (shapes : ℕ → List Part) (known : RankWindows) (call : Call) →
    (windows_after shapes known (action_of call)).created ≡ known.created ++ name_made call
created_grows shapes known call = by_action (action_of call)
  where
    by_action : (a : Action) → (windows_after shapes known a).created ≡ known.created ++ option_map_or
        (λ (creation : Creation). creation.win ∷ []) (creation_in a) []
    by_action (Creates creation) = refl
    by_action (Frees win) = sym (append-nil known.created)
    by_action (Attaches win base bytes) = sym (append-nil known.created)
    by_action (Detaches win base) = sym (append-nil known.created)
    by_action (Synchronises win s) = sym (append-nil known.created)
    by_action Meets = sym (append-nil known.created)
    by_action (Moves t) = sym (append-nil known.created)
    by_action (EndsRequest req) = sym (append-nil known.created)
