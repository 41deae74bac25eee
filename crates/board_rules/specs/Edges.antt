-- Which entries lead to which: MPI 3.1, sections 11.5 and 11.7, in this project's profile of order. An edge leads from
-- an entry that releases to one that acquires.
use Rattle.std.specs.Prelude.{ℕ, ◌+◌, Bool, true, false, ◌&&◌, ◌||◌, ◌==◌, nat_lt, List, [], ◌∷◌, ◌++◌, Option}
use Rattle.std.specs.Prelude.{slice_index_or, ℤ}
use Rattle.std.specs.List.{filter, list_any}
use Rattle.std.specs.Option.{option_map_or}
use Rattle.rma_types.specs.declared.accesses.Step.{Step}
use Rattle.rma_types.specs.declared.accesses.Step.TheVariants.{Arrive, Leave, One}
use Rattle.rma_types.specs.declared.calls.Lock.{Lock}
use Rattle.rma_types.specs.declared.actions.Synchronisation.{Synchronisation}
use Rattle.rma_types.specs.Actions.{synchronisation_of}
use Rattle.call_rules.specs.Ranks.{is_member}
use Rattle.board_rules.specs.Entries.{Row, collective_of, is_collective}
use Rattle.board_rules.specs.Locks.{Held, held_here, locks_asked, is_given_back, do_clash, lock_of, unlock_of}
use Rattle.board_rules.specs.Posts.{group_of_post, group_of_start, is_complete, is_wait, naming, posts, starts}
use Rattle.board_rules.specs.Posts.{completes, completed_groups, last_posted}
use Rattle.board_rules.specs.Questions.{Question, question}
use Rattle.board_rules.specs.Rounds.{rounds_begun}

-- an entry at its place, with what it asked after the entries before it
pub record Event : Type 0 where
  pub place : ℕ
  pub step : Step
  pub asked : Question

abbrev pub events_after : ℕ → ℕ → List Row → List Row → List Event
events_after ranks place before [] = []
events_after ranks place before (row ∷ rows) =
    record { place = place; step = row.step; asked = question ranks before row }
    ∷ events_after ranks (place + 1) (before ++ row ∷ []) rows

-- the entries as events, in the order of their places
abbrev pub events_of : ℕ → List Row → List Event
events_of ranks rows = events_after ranks 0 [] rows

-- the two events are on one window
abbrev pub are_on_one_window : Event → Event → Bool
are_on_one_window a b = a.asked.window == b.asked.window

-- ---- collective calls

abbrev pub is_arrive_to_leave : Step → Step → Bool
is_arrive_to_leave Arrive Arrive = false
is_arrive_to_leave Arrive Leave = true
is_arrive_to_leave Arrive One = false
is_arrive_to_leave Leave step = false
is_arrive_to_leave One step = false

-- an Arrive of a round, and a Leave of that round
abbrev pub are_of_one_round : Event → Event → Bool
are_of_one_round a b = are_on_one_window a b
    && option_map_or (λ collective. is_collective collective b.asked.call) (collective_of a.asked.call) false
    && rounds_begun a.asked + 1 == rounds_begun b.asked

-- ---- posts and starts, completes and waits

-- the k-th post of t that names o, and the k-th start of o that names t; the groups are those of the post and of the
-- start
abbrev pub is_started_by : Event → List ℕ → Event → List ℕ → Bool
is_started_by a posted b started =
    is_member b.asked.rank posted && is_member a.asked.rank started
    && naming b.asked.rank (posts a.asked a.asked.rank) == naming a.asked.rank (starts b.asked b.asked.rank)

-- the group of the start that a complete ends
abbrev pub group_completed : Event → List ℕ
group_completed a = slice_index_or (starts a.asked a.asked.rank) (completes a.asked a.asked.rank) []

-- the k-th complete of o towards t, and the wait or true testwin that ends t's k-th post that names o
abbrev pub is_waited_for_by : Event → Event → Bool
is_waited_for_by a b =
    is_member b.asked.rank (group_completed a) && is_member a.asked.rank (last_posted b.asked)
    && naming b.asked.rank (completed_groups a.asked a.asked.rank) + 1 ==
    naming a.asked.rank (posts b.asked b.asked.rank)

-- ---- locks

-- the locks that an unlock gives back
abbrev pub locks_given_back : Question → Option ℤ → List Held
locks_given_back q target = filter (is_given_back q.rank q.window target) (held_here q)

-- an unlock, and a lock at a greater place that one of the locks which it gives back excludes
abbrev pub is_locked_after : Event → Option ℤ → Event → (Lock × Option ℤ) → Bool
is_locked_after a unlocked b (kind, locked) =
    nat_lt a.place b.place
    && list_any (λ one. list_any (do_clash one) (locks_asked b.asked kind locked)) (locks_given_back a.asked unlocked)

-- ---- edges

-- the second of two synchronisations on one window, both of step One, comes after the first
abbrev pub is_edge_by : Event → Event → Synchronisation → Synchronisation → Bool
is_edge_by a b first second =
    list_any (λ posted. list_any (is_started_by a posted b) (group_of_start second)) (group_of_post first)
    || (is_complete first && is_wait second && is_waited_for_by a b)
    || option_map_or (λ unlocked. option_map_or (is_locked_after a unlocked b) (lock_of second) false)
    (unlock_of first) false

-- both are of step One, and the second synchronisation comes after the first
abbrev pub is_matched_one : Event → Event → Step → Step → Bool
is_matched_one a b One One = option_map_or
    (λ first. option_map_or (is_edge_by a b first) (synchronisation_of b.asked.call) false)
    (synchronisation_of a.asked.call) false
is_matched_one a b One Arrive = false
is_matched_one a b One Leave = false
is_matched_one a b Arrive step = false
is_matched_one a b Leave step = false

-- an edge leads from the first event to the second
abbrev pub is_edge : Event → Event → Bool
is_edge a b = are_on_one_window a b
    && ((is_arrive_to_leave a.step b.step && are_of_one_round a b) || is_matched_one a b a.step b.step)
