-- The rounds of collective calls: MPI 3.1, sections 11.2, 11.5.1 and 11.5.5, in this project's profile.
use Rattle.std.specs.Prelude.{ℕ, Bool, true, false, not, ◌&&◌, nat_le, List, [], ◌∷◌, length, Option, Some, None}
use Rattle.std.specs.Prelude.{slice_get}
use Rattle.std.specs.List.{list_all, list_any, flat_map}
use Rattle.std.specs.Option.{option_map_or}
use Rattle.rma_types.specs.declared.calls.Asserts.{Asserts}
use Rattle.rma_types.specs.declared.calls.Call.{Call}
use Rattle.rma_types.specs.declared.calls.Flavor.{Flavor}
use Rattle.rma_types.specs.declared.actions.Creation.{Creation}
use Rattle.rma_types.specs.declared.actions.Synchronisation.{Synchronisation}
use Rattle.rma_types.specs.declared.actions.Synchronisation.TheVariants.{Fences, Posts, Starts, Completes, Waits, Locks}
use Rattle.rma_types.specs.declared.actions.Synchronisation.TheVariants.{Unlocks, Flushes, Syncs}
use Rattle.rma_types.specs.Actions.{creation_of, synchronisation_of}
use Rattle.call_rules.specs.Pieces.{numbers_from}
use Rattle.rank_rules.specs.Windows.{is_same_flavor}
use Rattle.board_rules.specs.Entries.{collective_of, arrivals}
use Rattle.board_rules.specs.Questions.{Question}

-- the calls with which a rank has arrived at the collective of the question, one for each round
abbrev pub arrivals_of : Question → ℕ → List Call
arrivals_of q rank =
    option_map_or (λ collective. arrivals q.entries collective rank q.window) (collective_of q.call) []

-- how many rounds the asking rank has arrived in
abbrev pub rounds_begun : Question → ℕ
rounds_begun q = length (arrivals_of q q.rank)

-- the arrivals of all ranks in the round that this rank's next arrival is in
abbrev pub round_arrivals : Question → List Call
round_arrivals q =
    flat_map (λ rank. option_map_or (λ call. call ∷ []) (slice_get (arrivals_of q rank) (rounds_begun q)) [])
    (numbers_from 0 q.ranks)

-- every rank has arrived at least as often as this one, so in each of its rounds
abbrev pub all_arrived : Question → Bool
all_arrived q = list_all (λ rank. nat_le (rounds_begun q) (length (arrivals_of q rank))) (numbers_from 0 q.ranks)

abbrev pub is_same_truth : Bool → Bool → Bool
is_same_truth true b = b
is_same_truth false b = not b

abbrev pub asserts_of_fence : Synchronisation → Option Asserts
asserts_of_fence (Fences asserts) = Some asserts
asserts_of_fence (Posts group asserts) = None
asserts_of_fence (Starts group asserts) = None
asserts_of_fence Completes = None
asserts_of_fence (Waits tests) = None
asserts_of_fence (Locks kind target asserts) = None
asserts_of_fence (Unlocks target) = None
asserts_of_fence (Flushes target local) = None
asserts_of_fence Syncs = None

-- two fences of one round differ in noprecede or nosucceed (11.5.5)
abbrev pub do_asserts_differ : Asserts → Asserts → Bool
do_asserts_differ a b = not (is_same_truth a.noprecede b.noprecede && is_same_truth a.nosucceed b.nosucceed)

abbrev pub is_differing_fence : Asserts → Call → Bool
is_differing_fence asserts call = option_map_or
    (λ s. option_map_or (do_asserts_differ asserts) (asserts_of_fence s) false) (synchronisation_of call) false

-- two creations of one round make windows of two flavors
abbrev pub is_differing_creation : Flavor → Call → Bool
is_differing_creation flavor call =
    option_map_or (λ (other : Creation). not (is_same_flavor flavor other.flavor)) (creation_of call) false

-- an arrival of this round has another flavor
abbrev pub has_other_flavor : Question → Flavor → Bool
has_other_flavor q flavor = list_any (is_differing_creation flavor) (round_arrivals q)

-- an arrival of this round differs in noprecede or nosucceed
abbrev pub has_other_asserts : Question → Asserts → Bool
has_other_asserts q asserts = list_any (is_differing_fence asserts) (round_arrivals q)
