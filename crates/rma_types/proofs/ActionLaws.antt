-- Laws of the definitions.
use Rattle.std.proofs.Common.{◌≡◌, Some, ap, None, List, ℕ, ◌∷◌, []}
use Rattle.std.specs.Option.{option_map_or}
use Rattle.rma_types.specs.Actions.{creation_in, creation_of, action_of, transfer_in, transfer_of, synchronisation_in}
use Rattle.rma_types.specs.declared.actions.Action.{Action}
use Rattle.rma_types.specs.declared.actions.Action.TheVariants.{Creates, Frees, Attaches, Detaches, Synchronises, Meets}
use Rattle.rma_types.specs.declared.actions.Action.TheVariants.{Moves, EndsRequest}
use Rattle.rma_types.specs.declared.actions.Creation.{Creation}
use Rattle.rma_types.specs.declared.actions.Synchronisation.{Synchronisation}
use Rattle.rma_types.specs.declared.actions.Transfer.{Transfer}
use Rattle.rma_types.specs.declared.calls.Call.{Call}

pub creation_in_is : (action : Action) (creation : Creation) → creation_in action ≡ Some creation →
    action ≡ Creates creation
creation_in_is (Creates c) creation e = let is : c ≡ creation = cc e in ap Creates is
creation_in_is (Frees win) creation e = absurd (cc e)
creation_in_is (Attaches win base bytes) creation e = absurd (cc e)
creation_in_is (Detaches win base) creation e = absurd (cc e)
creation_in_is (Synchronises win s) creation e = absurd (cc e)
creation_in_is Meets creation e = absurd (cc e)
creation_in_is (Moves t) creation e = absurd (cc e)
creation_in_is (EndsRequest req) creation e = absurd (cc e)

pub creates_it : (call : Call) (creation : Creation) → creation_of call ≡ Some creation →
    action_of call ≡ Creates creation
creates_it call creation e = creation_in_is (action_of call) creation e

pub transfer_is : (action : Action) (t : Transfer) → transfer_in action ≡ Some t → action ≡ Moves t
transfer_is (Moves transfer) t e = cc
transfer_is action t e = cc

pub moves_it : (call : Call) (t : Transfer) → transfer_of call ≡ Some t → action_of call ≡ Moves t
moves_it call t e = transfer_is (action_of call) t e

-- a call that moves data makes no window
pub transfer_makes_none : (call : Call) (t : Transfer) → transfer_of call ≡ Some t → creation_of call ≡ None
transfer_makes_none call t moves = ap creation_in (moves_it call t moves)

-- the window that a call makes
abbrev pub name_made : Call → List ℕ
name_made call = option_map_or (λ (creation : Creation). creation.win ∷ []) (creation_of call) []

pub none_made : (call : Call) → creation_of call ≡ None → name_made call ≡ []
none_made call none = ap (λ o. option_map_or (λ (creation : Creation). creation.win ∷ []) o []) none

pub is_synchronising : (a : Action) (s : Synchronisation) → synchronisation_in a ≡ Some s →
    (win : ℕ) × (a ≡ Synchronises win s)
is_synchronising (Creates creation) s e = absurd (cc e)
is_synchronising (Frees win) s e = absurd (cc e)
is_synchronising (Attaches win base bytes) s e = absurd (cc e)
is_synchronising (Detaches win base) s e = absurd (cc e)
is_synchronising (Synchronises win other) s e = let is : other ≡ s = cc e in (win, ap (Synchronises win) is)
is_synchronising Meets s e = absurd (cc e)
is_synchronising (Moves t) s e = absurd (cc e)
is_synchronising (EndsRequest req) s e = absurd (cc e)
