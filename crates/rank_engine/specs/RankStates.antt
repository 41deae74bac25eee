-- A rank between two of its steps, with what stays the same through its run. This project's profile of a run.
use Rattle.std.specs.Prelude.{ℕ, ◌≡◌, ◌==◌, ◌++◌, ◌&&◌, Bool, if◌then◌else◌, List, [], length, map, drop, remove}
use Rattle.std.specs.Prelude.{nat_lt, is_none, Option, Some, None}
use Rattle.std.specs.Option.{option_and_then, option_map_or}
use Rattle.std.specs.List.{filter, flat_map, AllByRecursion}
use Rattle.rma_types.specs.declared.schedules.Delay.{Delay}
use Rattle.rma_types.specs.declared.scripts.Script.{Script}
use Rattle.rma_types.specs.declared.scripts.Layout.{Layout}
use Rattle.rma_record.specs.declared.items.Item.{Item}
use Rattle.board_rules.specs.Entries.{Row}
use Rattle.delivery_queue.specs.Queues.{Queue}
use Rattle.kept_rows.specs.KeptCalls.{kept_row}
use Rattle.lawful_runs.specs.Logs.{row_by}
use Rattle.lawful_runs.specs.Stages.{Stage, stage_of}
use Rattle.rank_rules.specs.declared.pending.PendingAccess.{PendingAccess}
use Rattle.rank_rules.specs.Epochs.{Epochs}
use Rattle.rank_rules.specs.Windows.{RankWindows}
use Rattle.step_runs.specs.Agents.{Agent, new_agent, tries_entry}
use Rattle.step_runs.specs.DataSteps.{Move, just_delivers, move_of}

-- The script, its layout and its delay; the rank; how many elements of each of its pending accesses are touched; the
-- place of the one whose delivery is begun, if there is one; for how many more items room may be asked; and the name of
-- the ring through which the items go, empty where there is none.
pub record RankState : Type 0 where
  pub stage : Stage
  pub agent : Agent
  pub touched : List ℕ
  pub opened : Option ℕ
  pub free : ℕ
  pub home : List ℕ

-- the rank by what code keeps of it
abbrev pub state_of : Script → Layout → Delay → (rank : ℕ) → List Item → RankWindows → List Epochs → Queue → (at : ℕ) →
    (entered drawn : Bool) → (draws : ℕ) → (ended : Bool) → (opened : Option ℕ) → (free : ℕ) → (home : List ℕ) →
    RankState
state_of script layout delay rank log windows epochs queue at entered drawn draws ended opened free home = record {
  stage = record { script = script; layout = layout; delay = delay };
  agent = record {
    rank = rank;
    log = log;
    known = record { windows = windows; epochs = epochs; requests = queue.requests };
    at = at;
    entered = entered;
    drawn = drawn;
    draws = draws;
    pending = queue.pending;
    ended = ended;
  };
  touched = queue.touched;
  opened = opened;
  free = free;
  home = home;
}

-- a rank before its first call
abbrev pub new_state : Script → Delay → (seed : ℕ) → (rank : ℕ) → (free : ℕ) → (home : List ℕ) → RankState
new_state script delay seed rank free home = record {
  stage = stage_of script delay;
  agent = new_agent (stage_of script delay) seed rank;
  touched = [];
  opened = None;
  free = free;
  home = home;
}

-- the pending accesses and the live requests
abbrev pub queue_of : RankState → Queue
queue_of state =
    record { pending = state.agent.pending; touched = state.touched; requests = state.agent.known.requests }

-- ---- a delivery that is begun

-- the elements of a list but the one at the open place
abbrev pub others : {X : Type 0} → Option ℕ → List X → List X
others opened xs = option_map_or (remove xs) opened xs

-- The next step of the rank tries an entry. A delivery that is begun goes on before anything else is done.
abbrev pub needs_entry : RankState → Bool
needs_entry state = is_none state.opened && tries_entry state.stage state.agent

-- no delivery is begun, and no element of a pending access is touched: so it is over a memory that tells its cells
pub record IsBetween (state : RankState) : Type 0 where
  pub closed : state.opened ≡ None
  pub untouched : AllByRecursion (λ count. count ≡ 0) state.touched

-- ---- entries

-- the entries of the rank, which are those of its log, each with its call
abbrev pub own_rows : Stage → Agent → List Row
own_rows stage agent = flat_map (row_by stage.script agent.rank) agent.log

-- the rows of the board that are the rank's are the entries of its log, as the board keeps them
abbrev pub AreOwnRows : Stage → Agent → List Row → Type 0
AreOwnRows stage agent rows =
    filter (λ (row : Row). row.rank == agent.rank) rows ≡ map kept_row (own_rows stage agent)

-- ---- moves

-- what a rank does by itself in a step that tries no entry, and the access that is then delivered
abbrev pub own_move : RankState → Move
own_move state = option_map_or (just_delivers state.agent) state.opened (move_of state.stage state.agent)

-- the place of the access that a move delivers: one that is issued without bytes is not pending
abbrev pub delivery_of : Move → Option ℕ
delivery_of move =
    option_and_then (λ at. if nat_lt at (length move.agent.pending) then Some at else None) move.delivers

-- The rank after a move: nothing is touched of an access that it issues, and the delivery of the access that it names
-- is begun.
abbrev pub moves_to : RankState → Move → RankState
moves_to state move = record state {
  agent = move.agent;
  touched = state.touched ++ map (λ (_ : PendingAccess). 0) (drop (length state.agent.pending) move.agent.pending);
  opened = delivery_of move;
}

abbrev pub moved : RankState → RankState
moved state = moves_to state (own_move state)
