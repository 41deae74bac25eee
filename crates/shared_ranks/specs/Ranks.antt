-- A rank that shares the board and the cells with others: this project's profile of MPI 3.1, sections 11.5 and 11.7.
use Rattle.std.specs.Prelude.{ℕ, ◌≡◌, true, false, List, [], Some, None}
use Rattle.rma_types.specs.declared.schedules.Delay.{Delay}
use Rattle.rma_types.specs.declared.scripts.Script.{Script}
use Rattle.board_turns.specs.Places.{Place, Round, new_place}
use Rattle.call_rules.specs.declared.cells.Cell.{Cell}
use Rattle.call_rules.specs.Layout.{layout as memory_layout, cells_of}
use Rattle.cell_face.specs.Faces.{Face, cell_count, low_at}
use Rattle.kept_rows.specs.Gifts.{Given, rows_given}
use Rattle.lawful_runs.specs.Stages.{Stage, stage_of}
use Rattle.rank_engine.specs.DataAnswers.{HasRoom}
use Rattle.rank_engine.specs.RankStates.{RankState, AreOwnRows, new_state}
use Rattle.rank_histories.specs.Among.{HasLivedAmong}
use Rattle.rank_histories.specs.Partly.{IsAmong}
use Rattle.rank_histories.specs.Recorded.{IsRecorded}
use Rattle.rank_laws.specs.Lives.{Stops}
use Rattle.shared_ranks.specs.declared.standings.Standing.{Standing}
use Rattle.shared_ranks.specs.declared.standings.Standing.TheVariants.{Going, Waits, Ended, OutOfMemory}

-- a rank of a run: the run's script, delay and seed, the turn round its board, and the rank's number
pub record RunRank : Type 0 where
  pub script : Script
  pub delay : Delay
  pub seed : ℕ
  pub turn : Round
  pub number : ℕ

abbrev pub stage_in : RunRank → Stage
stage_in run = stage_of run.script run.delay

-- a rank as it is now: its state, the value of its memory, its seat at the turn, and how it stands
pub record RankNow (X : Type 0) : Type 0 where
  pub state : RankState
  pub memory : X
  pub seat : Place
  pub standing : Standing

-- ---- what it shares

-- the seat is at this turn, and does not have the board
pub record RestsAt (round : Round) (seat : Place) : Type 0 where
  pub at_turn : seat.turn ≡ round
  pub rests : seat.holds ≡ false

-- the seat is this rank's at the run's turn, and does not have the board
pub record IsSeated (run : RunRank) (seat : Place) : Type 0 where
  pub at_rest : RestsAt run.turn seat
  pub its : seat.number ≡ run.number

-- before its first entry the board was one of the run, with tokens of this memory
pub record IsBoardOfRun (run : RunRank) (face : Face) : Type 0 where
  pub ranks : run.turn.first.ranks ≡ run.script.ranks
  pub layout : run.turn.first.layout ≡ memory_layout run.script
  pub name : run.turn.first.name ≡ face.name

-- the memory is the same, with the same updates granted
pub record IsSameMemory (before after : Face) : Type 0 where
  pub name : after.name ≡ before.name
  pub grant : after.grant ≡ before.grant

-- ---- a rank of a run

-- The rank has a history among the entries that it knows, and is between two of its steps or within one. Its own
-- entries are those of its log; its memory has the cells of the script and room for its updates, and tells what it
-- touched.
pub record IsGoing (run : RunRank) (state : RankState) (known : List Given) (face : Face) (knows : ℕ → Cell → Type 0)
    : Type 0 where
  pub stage : state.stage ≡ stage_in run
  pub cells : cell_count face ≡ cells_of state.stage.layout
  pub room : HasRoom state face
  pub own : AreOwnRows state.stage state.agent (rows_given known)
  pub among : IsAmong state.opened state.stage run.seed run.number known state.agent state.touched face knows
  pub recorded : IsRecorded state.stage run.number state.agent face knows

-- no delivery is begun, and the rank stops after the entries that it knows
pub record IsStopped (state : RankState) (known : List Given) : Type 0 where
  pub closed : state.opened ≡ None
  pub stops : Stops state.stage state.agent (rows_given known)

-- what the standing of a rank says of it; after want of memory nothing
abbrev pub IsStanding : Standing → RunRank → RankState → List Given → Face → (ℕ → Cell → Type 0) → Type 0
IsStanding Going run state known face knows = IsGoing run state known face knows
IsStanding Waits run state known face knows = IsGoing run state known face knows × IsStopped state known
IsStanding Ended run state known face knows =
    IsGoing run state known face knows × IsStopped state known × (state.agent.ended ≡ true)
IsStanding OutOfMemory run state known face knows = Unit {0}

-- it is this rank of the run
pub record IsRank {X : Type 0} (face_of : X → Face) (knows_of : X → ℕ → Cell → Type 0) (run : RunRank)
    (now : RankNow X) : Type 0 where
  pub seated : IsSeated run now.seat
  pub board : IsBoardOfRun run (face_of now.memory)
  pub stands : IsStanding now.standing run now.state now.seat.known (face_of now.memory) (knows_of now.memory)

-- it is a rank of some run
abbrev pub IsSomeRank : {X : Type 0} → (X → Face) → (X → ℕ → Cell → Type 0) → RankNow X → Type 0
IsSomeRank face_of knows_of now = (run : RunRank) × IsRank face_of knows_of run now

-- in every run in which it was a rank, it still is that rank
abbrev pub StaysRank : {X : Type 0} → (X → Face) → (X → ℕ → Cell → Type 0) → RankNow X → RankNow X → Type 0
StaysRank face_of knows_of before after =
    (run : RunRank) → IsRank face_of knows_of run before → IsRank face_of knows_of run after

-- ---- its beginning and its end

-- nothing was done: the rank is before its first step, its seat knows nothing, and no cell of its memory was updated
pub record IsNewRank {X : Type 0} (face_of : X → Face) (run : RunRank) (now : RankNow X) : Type 0 where
  pub state : now.state ≡
      new_state run.script run.delay run.seed run.number now.state.free now.state.home
  pub seat : now.seat ≡ new_place run.turn run.number
  pub board : IsBoardOfRun run (face_of now.memory)
  pub cells : cell_count (face_of now.memory) ≡ cells_of (memory_layout run.script)
  pub room : HasRoom now.state (face_of now.memory)
  pub lows : (cell : ℕ) → low_at (face_of now.memory) cell ≡ 0
  pub updates : (face_of now.memory).updates ≡ Some []

-- such a rank is one of the run, which goes on
abbrev pub BeginsAsRank : {X : Type 0} → (X → Face) → (X → ℕ → Cell → Type 0) → RankNow X → Type 0
BeginsAsRank face_of knows_of now =
    (run : RunRank) → IsNewRank face_of run now → IsRank face_of knows_of run now

-- The rank has its whole history among the entries that it knows: it stopped after them, and then delivered what was
-- pending. The memory tells what it touched.
pub record HasLivedAs {X : Type 0} (face_of : X → Face) (knows_of : X → ℕ → Cell → Type 0) (run : RunRank)
    (now : RankNow X) : Type 0 where
  pub history : HasLivedAmong (stage_in run) run.seed run.number now.seat.known now.state.agent
  pub recorded : IsRecorded (stage_in run) run.number now.state.agent (face_of now.memory) (knows_of now.memory)

-- in every run in which it was a rank that had stopped, it now has its whole history
abbrev pub HasLivedWhole : {X : Type 0} → (X → Face) → (X → ℕ → Cell → Type 0) → RankNow X → RankNow X → Type 0
HasLivedWhole face_of knows_of before after =
    (run : RunRank) → IsRank face_of knows_of run before → HasLivedAs face_of knows_of run after
