-- The order in which the ranks take turns on one thread: this project's profile.
use Rattle.std.specs.Prelude.{ℕ, ◌+◌, ◌-◌, ◌%◌, Bool, if◌then◌else◌, List, [], ◌∷◌, ◌++◌, length, take, drop, reverse}
use Rattle.std.specs.Prelude.{slice_get, Option, Some, None}
use Rattle.std.specs.List.{filter}
use Rattle.std.specs.Option.{option_map_or}
use Rattle.rma_types.specs.declared.schedules.Order.{Order}
use Rattle.rma_types.specs.declared.schedules.Order.TheVariants.{Robin, Reverse, Greedy, Seeded}
use Rattle.call_rules.specs.Pieces.{numbers_from}
use Rattle.step_runs.specs.Generator.{first_state, next_state, drawn_from, order_stream}

-- the ranks that were found waiting since the last entry, the rank of the last turn, and the state of the order's
-- generator
pub record Schedule : Type 0 where
  pub waiting : List ℕ
  pub last : ℕ
  pub draws : ℕ

-- the rank after which the first turn is looked for
abbrev pub last_before : Order → ℕ → ℕ
last_before Robin ranks = ranks - 1
last_before Reverse ranks = 0
last_before Greedy ranks = 0
last_before Seeded ranks = 0

abbrev pub first_schedule : Order → ℕ → ℕ → Schedule
first_schedule order ranks seed =
    record { waiting = []; last = last_before order ranks; draws = first_state seed order_stream }

-- the ranks in the order in which one is looked for after the last one
abbrev pub in_order : Order → ℕ → ℕ → List ℕ
in_order Robin last ranks = drop (last + 1) (numbers_from 0 ranks) ++ take (last + 1) (numbers_from 0 ranks)
in_order Reverse last ranks = reverse (take last (numbers_from 0 ranks)) ++ reverse (drop last (numbers_from 0 ranks))
in_order Greedy last ranks = numbers_from 0 ranks
in_order Seeded last ranks = numbers_from 0 ranks

-- a turn of the rank begins
abbrev pub turn_of : Schedule → ℕ → Schedule
turn_of schedule rank = record schedule { last = rank }

abbrev pub with_draw : Schedule → Schedule
with_draw schedule = record schedule { draws = next_state schedule.draws }

-- one of the ranks is picked: the first, or with order seeded a drawn one
abbrev pub pick_among : Order → Schedule → List ℕ → Option (ℕ × Schedule)
pick_among order schedule [] = None
pick_among Seeded schedule (rank ∷ ranks) =
    let drawn = with_draw schedule in
    option_map_or (λ one. Some (one, turn_of drawn one))
    (slice_get (rank ∷ ranks) (drawn_from drawn.draws % length (rank ∷ ranks))) None
pick_among Robin schedule (rank ∷ ranks) = Some (rank, turn_of schedule rank)
pick_among Reverse schedule (rank ∷ ranks) = Some (rank, turn_of schedule rank)
pick_among Greedy schedule (rank ∷ ranks) = Some (rank, turn_of schedule rank)

-- the rank of the next turn, among those that are ready, and the schedule in which it has the turn; none where none is
abbrev pub pick : Order → (ready : ℕ → Bool) → ℕ → Schedule → Option (ℕ × Schedule)
pick order ready ranks schedule = pick_among order schedule (filter ready (in_order order schedule.last ranks))

-- An entry makes all ranks ready again; then a rank whose next entry is not yet possible waits.
abbrev pub after_board : Bool → Bool → ℕ → Schedule → Schedule
after_board has_entered waits rank schedule =
    let left = if has_entered then [] else schedule.waiting in
    record schedule { waiting = if waits then rank ∷ left else left }
