-- The run on one thread, turn by turn: this project's profile. It is one of the lawful runs.
use Rattle.std.specs.Prelude.{ℕ, zero, suc, ◌+◌, ◌*◌, Bool, not, ◌&&◌, if◌then◌else◌, List, [], ◌∷◌, map, length}
use Rattle.std.specs.Prelude.{nat_lt, replicate, slice_index_or, slice_set}
use Rattle.std.specs.List.{fold, list_all}
use Rattle.std.specs.Option.{option_map_or}
use Rattle.rma_types.specs.declared.schedules.Delay.{Delay}
use Rattle.rma_types.specs.declared.schedules.Order.{Order}
use Rattle.rma_types.specs.declared.scripts.Script.{Script}
use Rattle.rma_record.specs.declared.runs.Run.{Run}
use Rattle.board_rules.specs.Entries.{Row}
use Rattle.call_rules.specs.declared.cells.Cell.{Cell}
use Rattle.call_rules.specs.Layout.{cells_of, call_count}
use Rattle.call_rules.specs.Pieces.{numbers_from}
use Rattle.call_rules.specs.Ranks.{is_member}
use Rattle.call_rules.specs.Touches.{empty_cell}
use Rattle.lawful_runs.specs.Stages.{Stage, stage_of}
use Rattle.rank_rules.specs.declared.pending.PendingAccess.{PendingAccess}
use Rattle.step_runs.specs.Agents.{Agent, new_agent, tries_entry}
use Rattle.step_runs.specs.BoardSteps.{AtBoard, board_step}
use Rattle.step_runs.specs.DataSteps.{OnMemory, data_step, deliver}
use Rattle.step_runs.specs.Schedules.{Schedule, first_schedule, pick, after_board}

-- the state between two turns: the ranks, the board's rows, the cells, and the schedule
pub record World : Type 0 where
  pub agents : List Agent
  pub rows : List Row
  pub cells : List Cell
  pub schedule : Schedule

abbrev pub agent_at : Stage → World → ℕ → Agent
agent_at stage world rank = slice_index_or world.agents rank (new_agent stage 0 rank)

-- ---- turns

-- a step of the rank at the board
abbrev pub turn_at_board : World → ℕ → AtBoard → World
turn_at_board world rank step = record world {
  agents = slice_set world.agents rank step.agent;
  rows = step.rows;
  schedule = after_board (nat_lt (length world.rows) (length step.rows)) step.waits rank world.schedule;
}

-- a step of the rank on memory
abbrev pub turn_on_memory : World → ℕ → OnMemory → World
turn_on_memory world rank step =
    record world { agents = slice_set world.agents rank step.agent; cells = step.cells }

-- one turn of a rank
abbrev pub turn : Stage → World → ℕ → World
turn stage world rank =
    let agent = agent_at stage world rank in
    if tries_entry stage agent
    then turn_at_board world rank (board_step stage agent world.rows)
    else turn_on_memory world rank (data_step stage agent world.cells)

-- a rank may have the next turn: it has not ended, and was not found waiting since the last entry
abbrev pub is_ready : Stage → World → ℕ → Bool
is_ready stage world rank = not (agent_at stage world rank).ended && not (is_member rank world.schedule.waiting)

-- the turn of the picked rank
abbrev pub picked_turn : Stage → World → (ℕ × Schedule) → World
picked_turn stage world (rank, schedule) = turn stage (record world { schedule = schedule }) rank

-- at most so many turns, until no rank may have one
abbrev pub run_from : Stage → Order → ℕ → World → World
run_from stage order zero world = world
run_from stage order (suc turns) world = option_map_or
    (λ picked. run_from stage order turns (picked_turn stage world picked))
    (pick order (is_ready stage world) stage.script.ranks world.schedule) world

-- ---- the end

-- the pending accesses are delivered, as many as the list has, in the order of their Issues
abbrev pub deliver_each : Stage → List PendingAccess → OnMemory → OnMemory
deliver_each stage [] now = now
deliver_each stage (one ∷ rest) now = deliver_each stage rest (deliver stage now.agent now.cells 0)

-- all pending accesses of a rank are delivered
abbrev pub drain_rank : Stage → World → ℕ → World
drain_rank stage world rank =
    let agent = agent_at stage world rank in
    turn_on_memory world rank (deliver_each stage agent.pending (record { agent = agent; cells = world.cells }))

-- all pending accesses are delivered, by rank and by the order of their Issues
abbrev pub drain : Stage → World → World
drain stage world = fold (drain_rank stage) world (numbers_from 0 stage.script.ranks)

-- the run that a state is, where no turn is left
abbrev pub run_of : World → Run
run_of world = record {
  logs = map (λ (agent : Agent). agent.log) world.agents;
  memory = map (λ (cell : Cell). cell.bits) world.cells;
  ended = list_all (λ (agent : Agent). agent.ended) world.agents;
}

-- ---- the run

-- the state before the first turn
abbrev pub first_world : Stage → Order → ℕ → World
first_world stage order seed = record {
  agents = map (new_agent stage seed) (numbers_from 0 stage.script.ranks);
  rows = [];
  cells = replicate (cells_of stage.layout) empty_cell;
  schedule = first_schedule order stage.script.ranks seed;
}

-- More turns than any run of at most 16 ranks has. Between two entries each rank is found waiting once at most; a call
-- has two entries and three other turns at most.
abbrev pub most_turns : Script → ℕ
most_turns script = 64 * (call_count script + 1)

-- the run of a script on one thread
unfoldable pub step_run : Script → Order → Delay → ℕ → Run
step_run script order delay seed =
    let stage = stage_of script delay in
    run_of (drain stage (run_from stage order (most_turns script) (first_world stage order seed)))
