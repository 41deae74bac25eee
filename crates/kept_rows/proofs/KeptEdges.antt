-- Edges between kept events are those between the events themselves.
use Rattle.std.proofs.Common.{◌≡◌, ℕ, ◌+◌, ◌==◌, Bool, false, ◌&&◌, ◌||◌, List, [], length, refl, ap, ◌∙◌, Option, Some}
use Rattle.std.proofs.Common.{None, ℤ}
use Rattle.std.specs.List.{filter, list_any}
use Rattle.std.specs.Option.{option_map_or}
use Rattle.std.specs.Prelude.{nat_lt, slice_index_or}
use Rattle.list_laws.proofs.Tests.{any_alike}
use Rattle.rma_types.specs.declared.accesses.Step.{Step}
use Rattle.rma_types.specs.declared.accesses.Step.TheVariants.{Arrive, Leave, One}
use Rattle.rma_types.specs.declared.calls.Lock.{Lock}
use Rattle.rma_types.specs.declared.actions.Synchronisation.{Synchronisation}
use Rattle.rma_types.specs.Actions.{synchronisation_of}
use Rattle.call_rules.specs.Ranks.{is_member}
use Rattle.board_rules.specs.Edges.{Event, are_of_one_round, are_on_one_window, group_completed, is_arrive_to_leave}
use Rattle.board_rules.specs.Edges.{is_edge, is_edge_by, is_locked_after, is_matched_one, is_started_by}
use Rattle.board_rules.specs.Edges.{is_waited_for_by}
use Rattle.board_rules.specs.Entries.{arrivals, collective_of, is_collective, is_same_collective}
use Rattle.board_rules.specs.Locks.{do_clash, is_given_back, lock_of, locks_asked, unlock_of}
use Rattle.board_rules.specs.Posts.{completed_groups, completes, group_of_post, group_of_start, is_complete, is_wait}
use Rattle.board_rules.specs.Posts.{last_posted, naming, posts, starts}
use Rattle.board_rules.specs.Rounds.{rounds_begun}
use Rattle.kept_rows.specs.KeptRowLaws.{kept_acts, kept_event}
use Rattle.kept_rows.proofs.KeptActs.{collective_kept, synchronisation_kept}
use Rattle.kept_rows.proofs.KeptAnswers.{arrived_kept, completed_kept, completes_kept, here_kept, last_kept}
use Rattle.kept_rows.proofs.KeptAnswers.{posts_kept, starts_kept}

-- ---- rounds

begun_whole : (a : Event) → rounds_begun (kept_event a).asked ≡ rounds_begun a.asked
begun_whole a =
    ap (λ o. length (option_map_or (λ collective. arrivals
    (kept_acts a.asked.entries) collective a.asked.rank a.asked.window) o [])) (collective_kept a.asked.call)
    ∙ ap length (arrived_kept a.asked a.asked.rank)

round_from : (a b : Event) → are_of_one_round (kept_event a) b ≡ are_of_one_round a b
round_from a b =
    ap (λ o. are_on_one_window a b && option_map_or
    (λ collective. is_collective collective b.asked.call) o false && rounds_begun
    (kept_event a).asked + 1 == rounds_begun b.asked)
    (collective_kept a.asked.call)
    ∙ ap (λ n. are_on_one_window a b && option_map_or (λ collective. is_collective collective b.asked.call)
    (collective_of a.asked.call) false && n + 1 == rounds_begun b.asked)
    (begun_whole a)

round_to : (a b : Event) → are_of_one_round a (kept_event b) ≡ are_of_one_round a b
round_to a b =
    ap (λ o. are_on_one_window a b && option_map_or
    (λ collective. option_map_or (is_same_collective collective) o false)
    (collective_of a.asked.call) false && rounds_begun a.asked + 1 == rounds_begun (kept_event b).asked)
    (collective_kept b.asked.call)
    ∙ ap (λ n. are_on_one_window a b && option_map_or (λ collective. is_collective collective b.asked.call)
    (collective_of a.asked.call) false && rounds_begun a.asked + 1 == n)
    (begun_whole b)

-- ---- synchronisations

started_from : (a b : Event) (posted started : List ℕ) →
    is_started_by (kept_event a) posted b started ≡ is_started_by a posted b started
started_from a b posted started =
    ap (λ groups. is_member b.asked.rank posted && is_member a.asked.rank started && naming b.asked.rank groups ==
    naming a.asked.rank (starts b.asked b.asked.rank))
    (posts_kept a.asked a.asked.rank)

started_to : (a b : Event) (posted started : List ℕ) →
    is_started_by a posted (kept_event b) started ≡ is_started_by a posted b started
started_to a b posted started =
    ap (λ groups. is_member b.asked.rank posted && is_member a.asked.rank started && naming b.asked.rank
    (posts a.asked a.asked.rank) == naming a.asked.rank groups)
    (starts_kept b.asked b.asked.rank)

ended_kept : (a : Event) → group_completed (kept_event a) ≡ group_completed a
ended_kept a =
    ap (λ groups. slice_index_or groups (completes (kept_event a).asked a.asked.rank) [])
    (starts_kept a.asked a.asked.rank)
    ∙ ap (λ n. slice_index_or (starts a.asked a.asked.rank) n []) (completes_kept a.asked a.asked.rank)

waited_from : (a b : Event) → is_waited_for_by (kept_event a) b ≡ is_waited_for_by a b
waited_from a b =
    ap (λ group. is_member b.asked.rank group && is_member a.asked.rank (last_posted b.asked)
    && naming b.asked.rank (completed_groups (kept_event a).asked a.asked.rank) + 1 == naming a.asked.rank
    (posts b.asked b.asked.rank)) (ended_kept a)
    ∙ ap (λ groups. is_member b.asked.rank (group_completed a) && is_member a.asked.rank (last_posted b.asked)
    && naming b.asked.rank groups + 1 == naming a.asked.rank (posts b.asked b.asked.rank))
    (completed_kept a.asked a.asked.rank)

waited_to : (a b : Event) → is_waited_for_by a (kept_event b) ≡ is_waited_for_by a b
waited_to a b =
    ap (λ group. is_member b.asked.rank (group_completed a) && is_member a.asked.rank group
    && naming b.asked.rank (completed_groups a.asked a.asked.rank) + 1 == naming a.asked.rank
    (posts (kept_event b).asked b.asked.rank)) (last_kept b.asked)
    ∙ ap (λ groups. is_member b.asked.rank (group_completed a) && is_member a.asked.rank (last_posted b.asked)
    && naming b.asked.rank (completed_groups a.asked a.asked.rank) + 1 == naming a.asked.rank groups)
    (posts_kept b.asked b.asked.rank)

locked_from : (a b : Event) (unlocked : Option ℤ) (lock : Lock × Option ℤ) →
    is_locked_after (kept_event a) unlocked b lock ≡ is_locked_after a unlocked b lock
locked_from a b unlocked (kind, locked) =
    ap (λ held. nat_lt a.place b.place
    && list_any (λ one. list_any (do_clash one) (locks_asked b.asked kind locked))
    (filter (is_given_back a.asked.rank a.asked.window unlocked) held)) (here_kept a.asked)

locked_to : (a b : Event) (unlocked : Option ℤ) (lock : Lock × Option ℤ) →
    is_locked_after a unlocked (kept_event b) lock ≡ is_locked_after a unlocked b lock
locked_to a b unlocked (kind, locked) = refl

locked_by_from : (a b : Event) (first : Option (Option ℤ)) (second : Option (Lock × Option ℤ)) →
    option_map_or (λ unlocked. option_map_or (is_locked_after (kept_event a) unlocked b) second false) first false
    ≡ option_map_or (λ unlocked. option_map_or (is_locked_after a unlocked b) second false) first false
locked_by_from a b None second = refl
locked_by_from a b (Some unlocked) None = refl
locked_by_from a b (Some unlocked) (Some lock) = locked_from a b unlocked lock

locked_by_to : (a b : Event) (first : Option (Option ℤ)) (second : Option (Lock × Option ℤ)) →
    option_map_or (λ unlocked. option_map_or (is_locked_after a unlocked (kept_event b)) second false) first false
    ≡ option_map_or (λ unlocked. option_map_or (is_locked_after a unlocked b) second false) first false
locked_by_to a b None second = refl
locked_by_to a b (Some unlocked) None = refl
locked_by_to a b (Some unlocked) (Some lock) = locked_to a b unlocked lock

parts_of_edge : {p q r p' q' r' : Bool} → p ≡ p' → q ≡ q' → r ≡ r' → (p || q || r) ≡ (p' || q' || r')
parts_of_edge {p} {q} {r} {p'} {q'} {r'} e f g =
    ap (λ b. b || q || r) e ∙ (ap (λ b. p' || b || r) f ∙ ap (λ b. p' || q' || b) g)

edge_by_from : (a b : Event) (first second : Synchronisation) →
    is_edge_by (kept_event a) b first second ≡ is_edge_by a b first second
edge_by_from a b first second = parts_of_edge
    (any_alike (λ posted. list_any (is_started_by (kept_event a) posted b) (group_of_start second))
    (λ posted. list_any (is_started_by a posted b) (group_of_start second))
    (λ posted. any_alike (is_started_by (kept_event a) posted b) (is_started_by a posted b) (started_from a b posted)
    (group_of_start second)) (group_of_post first))
    (ap (λ waited. is_complete first && is_wait second && waited) (waited_from a b))
    (locked_by_from a b (unlock_of first) (lock_of second))

edge_by_to : (a b : Event) (first second : Synchronisation) →
    is_edge_by a (kept_event b) first second ≡ is_edge_by a b first second
edge_by_to a b first second = parts_of_edge
    (any_alike (λ posted. list_any (is_started_by a posted (kept_event b)) (group_of_start second))
    (λ posted. list_any (is_started_by a posted b) (group_of_start second))
    (λ posted. any_alike (is_started_by a posted (kept_event b)) (is_started_by a posted b) (started_to a b posted)
    (group_of_start second)) (group_of_post first))
    (ap (λ waited. is_complete first && is_wait second && waited) (waited_to a b))
    (locked_by_to a b (unlock_of first) (lock_of second))

-- ---- edges

one_from : (a b : Event) (s t : Option Synchronisation) →
    option_map_or (λ first. option_map_or (is_edge_by (kept_event a) b first) t false) s false
    ≡ option_map_or (λ first. option_map_or (is_edge_by a b first) t false) s false
one_from a b None t = refl
one_from a b (Some first) None = refl
one_from a b (Some first) (Some second) = edge_by_from a b first second

one_to : (a b : Event) (s t : Option Synchronisation) →
    option_map_or (λ first. option_map_or (is_edge_by a (kept_event b) first) t false) s false
    ≡ option_map_or (λ first. option_map_or (is_edge_by a b first) t false) s false
one_to a b None t = refl
one_to a b (Some first) None = refl
one_to a b (Some first) (Some second) = edge_by_to a b first second

matched_from : (a b : Event) (s t : Step) → is_matched_one (kept_event a) b s t ≡ is_matched_one a b s t
matched_from a b One One =
    ap (λ o. option_map_or (λ first. option_map_or (is_edge_by (kept_event a) b first)
    (synchronisation_of b.asked.call) false) o false) (synchronisation_kept a.asked.call)
    ∙ one_from a b (synchronisation_of a.asked.call) (synchronisation_of b.asked.call)
matched_from a b One Arrive = refl
matched_from a b One Leave = refl
matched_from a b Arrive t = refl
matched_from a b Leave t = refl

matched_to : (a b : Event) (s t : Step) → is_matched_one a (kept_event b) s t ≡ is_matched_one a b s t
matched_to a b One One =
    ap (λ o. option_map_or (λ first. option_map_or (is_edge_by a (kept_event b) first) o false)
    (synchronisation_of a.asked.call) false) (synchronisation_kept b.asked.call)
    ∙ one_to a b (synchronisation_of a.asked.call) (synchronisation_of b.asked.call)
matched_to a b One Arrive = refl
matched_to a b One Leave = refl
matched_to a b Arrive t = refl
matched_to a b Leave t = refl

pub edge_from : (a b : Event) → is_edge (kept_event a) b ≡ is_edge a b
edge_from a b =
    ap (λ round. are_on_one_window a b && ((is_arrive_to_leave a.step b.step && round) || is_matched_one
    (kept_event a) b a.step b.step)) (round_from a b)
    ∙ ap (λ matched. are_on_one_window a b && ((is_arrive_to_leave a.step b.step && are_of_one_round a b) || matched))
    (matched_from a b a.step b.step)

pub edge_to : (a b : Event) → is_edge a (kept_event b) ≡ is_edge a b
edge_to a b =
    ap (λ round. are_on_one_window a b && ((is_arrive_to_leave a.step b.step && round) || is_matched_one a
    (kept_event b) a.step b.step)) (round_to a b)
    ∙ ap (λ matched. are_on_one_window a b && ((is_arrive_to_leave a.step b.step && are_of_one_round a b) || matched))
    (matched_to a b a.step b.step)
