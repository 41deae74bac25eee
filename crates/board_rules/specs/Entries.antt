-- The entries of the board, in the order of their places: this project's profile of MPI 3.1, sections 11.2 and 11.5.
use Rattle.std.specs.Prelude.{ℕ, ◌-◌, Bool, true, false, ◌&&◌, ◌==◌, if◌then◌else◌, List, [], ◌∷◌, ◌++◌, map, is_some}
use Rattle.std.specs.Prelude.{Option, Some, None}
use Rattle.std.specs.List.{count_by, filter, flat_map}
use Rattle.std.specs.Option.{option_map_or}
use Rattle.rma_types.specs.declared.accesses.Step.{Step}
use Rattle.rma_types.specs.declared.accesses.Step.TheVariants.{Arrive, Leave, One}
use Rattle.rma_types.specs.declared.calls.Call.{Call}
use Rattle.rma_types.specs.declared.actions.Action.{Action}
use Rattle.rma_types.specs.declared.actions.Action.TheVariants.{Creates, Frees, Attaches, Detaches, Synchronises, Meets}
use Rattle.rma_types.specs.declared.actions.Action.TheVariants.{Moves, EndsRequest}
use Rattle.rma_types.specs.declared.actions.Synchronisation.{Synchronisation}
use Rattle.rma_types.specs.declared.actions.Synchronisation.TheVariants.{Fences, Posts, Starts, Completes, Waits, Locks}
use Rattle.rma_types.specs.declared.actions.Synchronisation.TheVariants.{Unlocks, Flushes, Syncs}
use Rattle.rma_types.specs.Actions.{action_of, creation_of, synchronisation_of, window_of_call}
use Rattle.rank_rules.specs.Windows.{window_number}

-- an entry: the rank, the number of its call in the rank's list, the call, and the step
pub record Row : Type 0 where
  pub rank : ℕ
  pub number : ℕ
  pub call : Call
  pub step : Step

abbrev pub is_arrive : Step → Bool
is_arrive Arrive = true
is_arrive Leave = false
is_arrive One = false

abbrev pub is_creation : Call → Bool
is_creation call = is_some (creation_of call)

-- the call names the window
abbrev pub names_window : ℕ → Call → Bool
names_window win call = option_map_or (λ name. name == win) (window_of_call call) false

-- the entry is the Arrive of a creation
abbrev pub begins_window : Row → Bool
begins_window row = is_arrive row.step && is_creation row.call

-- how many windows of this name the rank has begun to create
abbrev pub creations : List Row → ℕ → ℕ → ℕ
creations rows rank win =
    count_by (λ (row : Row). row.rank == rank && begins_window row && names_window win row.call) rows

-- the round of a creation that an entry is on: the Arrive of a creation begins the next one
abbrev pub round_of : List Row → Row → ℕ → ℕ
round_of before row win =
    if begins_window row then creations before row.rank win else creations before row.rank win - 1

-- the number of the window that an entry is on, after the entries before it; a barrier is on none
abbrev pub window_of : List Row → Row → ℕ
window_of before row = option_map_or (λ win. window_number (round_of before row win) win) (window_of_call row.call) 0

-- an entry with the number of its window
pub record Act : Type 0 where
  pub row : Row
  pub window : ℕ

abbrev pub acts_after : List Row → List Row → List Act
acts_after before [] = []
acts_after before (row ∷ rows) =
    record { row = row; window = window_of before row } ∷ acts_after (before ++ row ∷ []) rows

-- the entries with the numbers of their windows
abbrev pub acts : List Row → List Act
acts rows = acts_after [] rows

-- the entry is one of the rank's on the window
abbrev pub is_by_on : ℕ → ℕ → Act → Bool
is_by_on rank window act = act.row.rank == rank && act.window == window

-- the synchronisations of a rank on a window, in order
abbrev pub synchronisations : List Act → ℕ → ℕ → List Synchronisation
synchronisations entries rank window = flat_map
    (λ (act : Act). option_map_or (λ s. s ∷ []) (synchronisation_of act.row.call) [])
    (filter (is_by_on rank window) entries)

-- ---- collective calls

-- how collective calls are matched: the creations, the frees and the fences of a window, and the barriers
pub data Collective : Type 0 where
  Creation : Collective
  Freeing : Collective
  Fence : Collective
  Barrier : Collective

abbrev pub is_same_collective : Collective → Collective → Bool
is_same_collective Creation Creation = true
is_same_collective Creation Freeing = false
is_same_collective Creation Fence = false
is_same_collective Creation Barrier = false
is_same_collective Freeing Creation = false
is_same_collective Freeing Freeing = true
is_same_collective Freeing Fence = false
is_same_collective Freeing Barrier = false
is_same_collective Fence Creation = false
is_same_collective Fence Freeing = false
is_same_collective Fence Fence = true
is_same_collective Fence Barrier = false
is_same_collective Barrier Creation = false
is_same_collective Barrier Freeing = false
is_same_collective Barrier Fence = false
is_same_collective Barrier Barrier = true

abbrev pub fence_or_none : Synchronisation → Option Collective
fence_or_none (Fences asserts) = Some Fence
fence_or_none (Posts group asserts) = None
fence_or_none (Starts group asserts) = None
fence_or_none Completes = None
fence_or_none (Waits tests) = None
fence_or_none (Locks kind target asserts) = None
fence_or_none (Unlocks target) = None
fence_or_none (Flushes target local) = None
fence_or_none Syncs = None

abbrev pub collective_in : Action → Option Collective
collective_in (Creates creation) = Some Creation
collective_in (Frees win) = Some Freeing
collective_in (Attaches win base bytes) = None
collective_in (Detaches win base) = None
collective_in (Synchronises win s) = fence_or_none s
collective_in Meets = Some Barrier
collective_in (Moves transfer) = None
collective_in (EndsRequest req) = None

-- the collective call that a call is
abbrev pub collective_of : Call → Option Collective
collective_of call = collective_in (action_of call)

abbrev pub is_collective : Collective → Call → Bool
is_collective collective call = option_map_or (is_same_collective collective) (collective_of call) false

-- the step of a call's first entry
abbrev pub first_step : Call → Step
first_step call = if is_some (collective_of call) then Arrive else One

-- the calls with which a rank has arrived at a collective on a window, one for each round
abbrev pub arrivals : List Act → Collective → ℕ → ℕ → List Call
arrivals entries collective rank window = map (λ (act : Act). act.row.call) (filter
    (λ (act : Act). is_by_on rank window act && is_arrive act.row.step && is_collective collective act.row.call)
    entries)
