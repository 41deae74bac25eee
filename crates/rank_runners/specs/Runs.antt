-- A run between two turns, as the code keeps it.
use Rattle.std.specs.Prelude.{ℕ, Bool, false, Option, Some, None, slice_set, ◌≡◌, ◌<◌, ◌≤◌, List, [], length, map}
use Rattle.std.specs.Prelude.{slice_index_or, sum_by}
use Rattle.board_rules.specs.Entries.{Row}
use Rattle.call_rules.specs.Layout.{cells_of}
use Rattle.cell_face.specs.PlainCells.{PlainCells}
use Rattle.kept_rows.specs.KeptRowLaws.{kept_rows}
use Rattle.lawful_runs.specs.Stages.{Stage}
use Rattle.rank_engine.specs.RankStates.{RankState, AreOwnRows, IsBetween, needs_entry}
use Rattle.rank_engine.specs.Shares.{updates_ahead}
use Rattle.rank_runners.specs.RankSets.{has}
use Rattle.rank_runners.specs.Marks.{IsKept}
use Rattle.rank_runners.specs.declared.runners.Runner.{Runner}
use Rattle.step_runs.specs.Agents.{new_agent}
use Rattle.step_runs.specs.BoardSteps.{board_step}
use Rattle.step_runs.specs.DataSteps.{data_step}
use Rattle.step_runs.specs.Schedules.{Schedule}
use Rattle.step_runs.specs.StepRun.{World, agent_at, turn, turn_at_board, turn_on_memory}
use Rattle.sync_board.specs.Boards.{BoardState, rows_on}

-- what stands for a rank that is not there
abbrev pub no_state : Stage → ℕ → RankState
no_state stage rank = record {
  stage = stage;
  agent = new_agent stage 0 rank;
  touched = [];
  opened = None;
  free = 0;
  home = [];
}

abbrev pub state_at : Stage → List RankState → ℕ → RankState
state_at stage states rank = slice_index_or states rank (no_state stage rank)

-- a rank of the run, whose rows the board has
pub record IsRank (stage : Stage) (rows : List Row) (rank : ℕ) (state : RankState) : Type 0 where
  pub same_stage : state.stage ≡ stage
  pub number : state.agent.rank ≡ rank
  pub between : IsBetween state
  pub own : AreOwnRows stage state.agent rows

-- the board is that of the run
pub record IsBoard (stage : Stage) (board : BoardState) : Type 0 where
  pub ranks : board.ranks ≡ stage.script.ranks
  pub layout : board.layout ≡ stage.layout
  pub name : board.name ≡ []

-- The ranks, the board and the memory are those of the world, whose entries the board has without their values. The
-- memory has all cells, and takes each update that is still to be made.
pub record IsWorld (stage : Stage) (states : List RankState) (board : BoardState) (memory : PlainCells)
    (world : World) : Type 0 where
  pub count : length states ≡ stage.script.ranks
  pub agents : map (λ (state : RankState). state.agent) states ≡ world.agents
  pub ranks : (rank : ℕ) → rank < stage.script.ranks → IsRank stage (rows_on board) rank (state_at stage states rank)
  pub of_run : IsBoard stage board
  pub rows : rows_on board ≡ kept_rows world.rows
  pub cells : memory.cells ≡ world.cells
  pub all_cells : length memory.cells ≡ cells_of stage.layout
  pub share : sum_by updates_ahead states ≤ memory.share

-- the ranks, the board, the memory, the schedule and the ranks that have ended are those of the world
pub record IsRun (stage : Stage) (runner : Runner) (world : World) : Type 0 where
  pub few : stage.script.ranks ≤ 16
  pub in_world : IsWorld stage runner.agents.items runner.board runner.memory world
  pub kept : IsKept runner.turns world.schedule
  pub last : runner.turns.last < stage.script.ranks
  pub over : (rank : ℕ) → rank < stage.script.ranks
      → has runner.ended rank ≡ (state_at stage runner.agents.items rank).agent.ended

-- there is a world that the run is in, with so many ranks
abbrev pub IsSome : Runner → Type 0
IsSome runner = (stage : Stage) × (world : World) × IsRun stage runner world

-- from every world that the run was in it is in the one that follows
abbrev pub GoesOn : Runner → Runner → (Stage → World → World) → Type 0
GoesOn before after next = (stage : Stage) (world : World) → IsRun stage before world
    → IsRun stage after (next stage world)

-- ---- a turn

-- the rank has a turn, and its next step is at the board or is not
pub record HasTurn (runner : Runner) (rank : ℕ) (at_board : Bool) : Type 0 where
  pub some : IsSome runner
  pub within : rank < length runner.agents.items
  pub needs : (other : RankState) → needs_entry (slice_index_or runner.agents.items rank other) ≡ at_board

abbrev pub at_board : ℕ → Stage → World → World
at_board rank stage world = turn_at_board world rank (board_step stage (agent_at stage world rank) world.rows)

abbrev pub on_memory : ℕ → Stage → World → World
on_memory rank stage world = turn_on_memory world rank (data_step stage (agent_at stage world rank) world.cells)

-- One rank had a turn: it alone has changed, and from every world that the run was in it is in the one after that
-- turn. Which ranks have ended is not yet said.
pub record IsOneTurn (before after : Runner) (rank : ℕ) (next : Stage → World → World) : Type 0 where
  pub state : RankState
  pub changed : after.agents.items ≡ slice_set before.agents.items rank state
  pub same_ended : after.ended ≡ before.ended
  pub goes_on : (stage : Stage) (world : World) → IsRun stage before world →
      IsWorld stage after.agents.items after.board after.memory (next stage world)
      × IsKept after.turns (next stage world).schedule × (after.turns.last < stage.script.ranks)

-- from every world that the run was in it is in the one after the rank's turn
abbrev pub turn_of : ℕ → Stage → World → World
turn_of rank stage world = turn stage world rank

-- the rank may have a turn
pub record IsReady (runner : Runner) (rank : ℕ) : Type 0 where
  pub some : IsSome runner
  pub within : rank < length runner.agents.items
  pub standing : has runner.ended rank ≡ false

-- the rank that was picked has the next turn; where none was, nothing changes
abbrev pub IsNext : Stage → Runner → World → Option (ℕ × Schedule) → Option ℕ → Type 0
IsNext stage runner world None found = (found ≡ None) × IsRun stage runner world
IsNext stage runner world (Some (rank, schedule)) found =
    (found ≡ Some rank) × IsRun stage runner (record world { schedule = schedule }) × IsReady runner rank

-- ---- the end

-- there is a world that the ranks, the board and the memory are those of
abbrev pub IsInWorld : Runner → Type 0
IsInWorld runner = (stage : Stage) × (world : World)
    × IsWorld stage runner.agents.items runner.board runner.memory world

-- from every world that they were those of they are those of the one that follows
abbrev pub LeadsOn : Runner → Runner → (Stage → World → World) → Type 0
LeadsOn before after next = (stage : Stage) (world : World)
    → IsWorld stage before.agents.items before.board before.memory world →
    IsWorld stage after.agents.items after.board after.memory (next stage world)
