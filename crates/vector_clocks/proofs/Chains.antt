-- No entry has both an edge from it and an edge to it.
use Rattle.std.proofs.Common.{◌≡◌, Bool, true, false, ◌&&◌, ◌||◌, List, Option, Some, None, inl, inr, refl, ap, ◌∙◌, ℤ}
use Rattle.std.specs.Option.{option_map_or}
use Rattle.std.proofs.lemmas.Bool.{false≢true, and_parts, or_cases}
use Rattle.std.proofs.Math.Bool.{and-false}
use Rattle.rma_types.specs.declared.accesses.Step.{Step}
use Rattle.rma_types.specs.declared.accesses.Step.TheVariants.{Arrive, Leave, One}
use Rattle.rma_types.specs.declared.calls.Asserts.{Asserts}
use Rattle.rma_types.specs.declared.actions.Synchronisation.{Synchronisation}
use Rattle.rma_types.specs.declared.actions.Synchronisation.TheVariants.{Fences, Posts, Starts, Completes, Waits, Locks}
use Rattle.rma_types.specs.declared.actions.Synchronisation.TheVariants.{Unlocks, Flushes, Syncs}
use Rattle.rma_types.specs.Actions.{synchronisation_of}
use Rattle.board_rules.specs.Edges.{Event, are_on_one_window, are_of_one_round, is_arrive_to_leave, is_edge, is_edge_by}
use Rattle.board_rules.specs.Edges.{is_matched_one}

-- nothing leads to an event that such a synchronisation made
IsFirst : Synchronisation → Type 0
IsFirst s = (c a : Event) (first : Synchronisation) → is_edge_by c a first s ≡ false

posts_first : (group : List ℤ) (asserts : Asserts) → IsFirst (Posts group asserts)
unfolding IsFirst
posts_first group asserts c a (Fences asserts') = refl
posts_first group asserts c a (Posts group' asserts') = refl
posts_first group asserts c a (Starts group' asserts') = refl
posts_first group asserts c a Completes = refl
posts_first group asserts c a (Waits tests') = refl
posts_first group asserts c a (Locks kind' target' asserts') = refl
posts_first group asserts c a (Unlocks target') = refl
posts_first group asserts c a (Flushes target' local') = refl
posts_first group asserts c a Syncs = refl

completes_first : IsFirst Completes
unfolding IsFirst
completes_first c a (Fences asserts') = refl
completes_first c a (Posts group' asserts') = refl
completes_first c a (Starts group' asserts') = refl
completes_first c a Completes = refl
completes_first c a (Waits tests') = refl
completes_first c a (Locks kind' target' asserts') = refl
completes_first c a (Unlocks target') = refl
completes_first c a (Flushes target' local') = refl
completes_first c a Syncs = refl

unlocks_first : (target : Option ℤ) → IsFirst (Unlocks target)
unfolding IsFirst
unlocks_first target c a (Fences asserts') = refl
unlocks_first target c a (Posts group' asserts') = refl
unlocks_first target c a (Starts group' asserts') = refl
unlocks_first target c a Completes = refl
unlocks_first target c a (Waits tests') = refl
unlocks_first target c a (Locks kind' target' asserts') = refl
unlocks_first target c a (Unlocks target') = refl
unlocks_first target c a (Flushes target' local') = refl
unlocks_first target c a Syncs = refl

-- what an edge leads from is such a synchronisation
from_first : (a b : Event) (first second : Synchronisation) → is_edge_by a b first second ≡ true → IsFirst first
from_first a b (Fences asserts) second h = absurd (false≢true h)
from_first a b (Posts group asserts) second h = posts_first group asserts
from_first a b (Starts group asserts) second h = absurd (false≢true h)
from_first a b Completes second h = completes_first
from_first a b (Waits tests) second h = absurd (false≢true h)
from_first a b (Locks kind target asserts) second h = absurd (false≢true h)
from_first a b (Unlocks target) second h = unlocks_first target
from_first a b (Flushes target local) second h = absurd (false≢true h)
from_first a b Syncs second h = absurd (false≢true h)

-- the events that synchronisations of step One made
one_first : (a b c : Event) (here from to : Option Synchronisation) →
    option_map_or (λ first. option_map_or (is_edge_by a b first) to false) here false ≡ true →
    option_map_or (λ first. option_map_or (is_edge_by c a first) here false) from false ≡ false
unfolding IsFirst
one_first a b c None from to h = absurd (false≢true h)
one_first a b c (Some s) None to h = refl
one_first a b c (Some s) (Some first) None h = absurd (false≢true h)
one_first a b c (Some s) (Some first) (Some second) h = from_first a b s second h c a first

matched_first : (a b c : Event) (sa sb sc : Step) → is_matched_one a b sa sb ≡ true → is_matched_one c a sc sa ≡ false
matched_first a b c One One One h =
    one_first a b c (synchronisation_of a.asked.call) (synchronisation_of c.asked.call)
    (synchronisation_of b.asked.call) h
matched_first a b c One One Arrive h = refl
matched_first a b c One One Leave h = refl
matched_first a b c One Arrive sc h = absurd (false≢true h)
matched_first a b c One Leave sc h = absurd (false≢true h)
matched_first a b c Arrive sb sc h = absurd (false≢true h)
matched_first a b c Leave sb sc h = absurd (false≢true h)

-- an Arrive has no edge to it
arrive_first : (a c : Event) (sa sb sc : Step) (round : Bool) → is_arrive_to_leave sa sb ≡ true →
    ((is_arrive_to_leave sc sa && round) || is_matched_one c a sc sa) ≡ false
arrive_first a c Arrive sb Arrive round h = refl
arrive_first a c Arrive sb Leave round h = refl
arrive_first a c Arrive sb One round h = refl
arrive_first a c Leave sb sc round h = absurd (false≢true h)
arrive_first a c One sb sc round h = absurd (false≢true h)

one_arrives : (a b c : Event) (sa sb sc : Step) (round : Bool) → is_matched_one a b sa sb ≡ true →
    (is_arrive_to_leave sc sa && round) ≡ false
one_arrives a b c One sb Arrive round h = refl
one_arrives a b c One sb Leave round h = refl
one_arrives a b c One sb One round h = refl
one_arrives a b c Arrive sb sc round h = absurd (false≢true h)
one_arrives a b c Leave sb sc round h = absurd (false≢true h)

-- where an edge leads from an event, none leads to it
pub no_chain : (a b c : Event) → is_edge a b ≡ true → is_edge c a ≡ false
no_chain a b c h =
    let parts = and_parts (are_on_one_window a b)
    ((is_arrive_to_leave a.step b.step && are_of_one_round a b) || is_matched_one a b a.step b.step) h in
    let rest : ((is_arrive_to_leave c.step a.step && are_of_one_round c a) || is_matched_one c a c.step a.step)
    ≡ false =
    elim (or_cases (is_arrive_to_leave a.step b.step && are_of_one_round a b) (is_matched_one a b a.step b.step)
    parts.1) [
      | inl round ↦
          arrive_first a c a.step b.step c.step (are_of_one_round c a)
          (and_parts (is_arrive_to_leave a.step b.step) (are_of_one_round a b) round).0
      | inr one ↦
          rw (one_arrives a b c a.step b.step c.step (are_of_one_round c a) one)
          (matched_first a b c a.step b.step c.step one)
    ] in
    ap (λ edge. are_on_one_window c a && edge) rest ∙ and-false (are_on_one_window c a)
