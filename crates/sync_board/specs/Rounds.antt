-- The rounds of the collective calls on one window that a rank has arrived in: MPI 3.1, sections 11.2.1 and 11.5.1.
use Rattle.std.specs.Prelude.{◌≡◌, ℕ, List, [], ◌∷◌, ◌++◌, length, Option, Some, None, slice_get}
use Rattle.std.specs.Option.{option_map, option_map_or}
use Rattle.rma_types.specs.declared.calls.Asserts.{Asserts}
use Rattle.rma_types.specs.declared.calls.Call.{Call}
use Rattle.rma_types.specs.declared.calls.Flavor.{Flavor}
use Rattle.rma_types.specs.declared.actions.Creation.{Creation}
use Rattle.rma_types.specs.Actions.{creation_of, synchronisation_of}
use Rattle.board_rules.specs.Rounds.{asserts_of_fence}
use Rattle.sync_board.specs.Sides.{Done}
use Rattle.board_rules.specs.Entries.{Collective, Creation as CreationCollective, Freeing as FreeingCollective}
use Rattle.board_rules.specs.Entries.{Fence as FenceCollective, Barrier as BarrierCollective}
use Rattle.sync_board.specs.declared.rounds.Kind.{Kind}
use Rattle.sync_board.specs.declared.rounds.Kind.TheVariants.{Creation as CreationKind, Freeing as FreeingKind}
use Rattle.sync_board.specs.declared.rounds.Kind.TheVariants.{Fence as FenceKind}
use Rattle.sync_board.specs.declared.rounds.Rounds.{Rounds}

-- the assertions of a fence
abbrev pub asserts_in : Call → Option Asserts
asserts_in call = option_map_or asserts_of_fence (synchronisation_of call) None

-- the flavor of a creation
abbrev pub flavor_in : Call → Option Flavor
flavor_in call = option_map (λ (creation : Creation). creation.flavor) (creation_of call)

-- the values are what the calls have, one by one
abbrev pub AreOf : {X : Type 0} → (Call → Option X) → List X → List Call → Type 0
AreOf has [] [] = Unit {0}
AreOf has [] (call ∷ calls) = ⊥
AreOf has (value ∷ values) [] = ⊥
AreOf has (value ∷ values) (call ∷ calls) = (has call ≡ Some value) × AreOf has values calls

abbrev pub with_creation : Done → Call → Done
with_creation d call = record d { creations = d.creations ++ call ∷ [] }

abbrev pub with_free : Done → Call → Done
with_free d call = record d { frees = d.frees ++ call ∷ [] }

abbrev pub with_fence : Done → Call → Done
with_fence d call = record d { fences = d.fences ++ call ∷ [] }

-- the rounds are those of what the rank has done
pub record HasRounds (d : Done) (rounds : Rounds) : Type 0 where
  pub created : AreOf flavor_in rounds.created.items d.creations
  pub freed : rounds.freed ≡ length d.frees
  pub fences : AreOf asserts_in rounds.fences.items d.fences

-- the collective calls of a kind
abbrev pub collective_by : Kind → Collective
collective_by CreationKind = CreationCollective
collective_by FreeingKind = FreeingCollective
collective_by FenceKind = FenceCollective

-- the kind of a collective call on a window; a barrier is on none
abbrev pub kind_by : Collective → Option Kind
kind_by CreationCollective = Some CreationKind
kind_by FreeingCollective = Some FreeingKind
kind_by FenceCollective = Some FenceKind
kind_by BarrierCollective = None

-- the arrivals at the collective calls of a kind
abbrev pub arrivals_by : Kind → Done → List Call
arrivals_by CreationKind d = d.creations
arrivals_by FreeingKind d = d.frees
arrivals_by FenceKind d = d.fences

-- the arrival of a round, as a list
abbrev pub arrival_in : List Call → ℕ → List Call
arrival_in calls round = option_map_or (λ call. call ∷ []) (slice_get calls round) []
