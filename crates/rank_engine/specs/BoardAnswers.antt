-- What a rank answers a step at the board, and what it gives and gains with it: MPI 3.1, sections 11.5 and 11.7, in
-- this project's profile.
use Rattle.std.specs.Prelude.{ℕ, ◌≡◌, ◌+◌, ◌<◌, ◌≤◌, Bool, true, false, ◌||◌, List, ◌++◌, length, map, drop, take}
use Rattle.std.specs.Prelude.{slice_get, slice_index, if◌then◌else◌, Option, Some, None, IfSome, IsSome}
use Rattle.std.specs.List.{AllByRecursion}
use Rattle.std.specs.Option.{option_map_or}
use Rattle.rma_types.specs.declared.accesses.Step.{Step}
use Rattle.rma_types.specs.declared.calls.Call.{Call}
use Rattle.board_rules.specs.Entries.{Row, is_arrive}
use Rattle.rma_types.specs.declared.actions.Synchronisation.{Synchronisation}
use Rattle.rma_types.specs.declared.actions.Synchronisation.TheVariants.{Fences, Posts, Starts, Completes, Waits, Locks}
use Rattle.rma_types.specs.declared.actions.Synchronisation.TheVariants.{Unlocks, Flushes, Syncs}
use Rattle.rma_types.specs.Actions.{synchronisation_of}
use Rattle.cell_face.specs.Faces.{Face, Unwritten, cell_count, low_at}
use Rattle.kept_rows.specs.Gifts.{Front, Given, gained_by}
use Rattle.kept_rows.specs.KeptCalls.{kept_row}
use Rattle.step_runs.specs.BoardSteps.{board_step}
use Rattle.sync_board.specs.Boards.{BoardState, rows_on}
use Rattle.rank_engine.specs.RankStates.{RankState, AreOwnRows}
use Rattle.rank_engine.specs.Shares.{updates_ahead}
use Rattle.rank_engine.specs.declared.answers.Turned.{Turned}
use Rattle.rank_engine.specs.declared.answers.Turned.TheVariants.{Did, NotYet, Again, Full, Ended}

-- The board is one of the rank's run: its number of ranks, its layout, the rank's rows, and the memory from which the
-- rank's tokens come.
pub record IsBoardOf (state : RankState) (board : BoardState) (face : Face) : Type 0 where
  pub ranks : board.ranks ≡ state.stage.script.ranks
  pub layout : board.layout ≡ state.stage.layout
  pub rows : AreOwnRows state.stage state.agent (rows_on board)
  pub name : board.name ≡ face.name

-- ---- what is given

-- a synchronisation with which a rank hands on what it has seen: from it leads an edge to a later entry
abbrev pub hands_on : Synchronisation → Bool
hands_on (Fences asserts) = false
hands_on (Posts group asserts) = true
hands_on (Starts group asserts) = false
hands_on Completes = true
hands_on (Waits tests) = false
hands_on (Locks kind target asserts) = false
hands_on (Unlocks target) = true
hands_on (Flushes target local) = false
hands_on Syncs = false

-- a token is given with each Arrive, and with each post, complete and unlock
abbrev pub gives : Step → Call → Bool
gives step call = is_arrive step || option_map_or hands_on (synchronisation_of call) false

-- the front of a token tells the lowest places of a memory, where it tells any
abbrev pub TellsLows : Face → Front → Type 0
TellsLows face front = IfSome front (λ places. places ≡ face.lows)

abbrev pub IsGift : Face → Bool → Option Front → Type 0
IsGift face false gift = gift ≡ None
IsGift face true None = ⊥
IsGift face true (Some front) = TellsLows face front

-- the entry was put with a token exactly where one is given, as the memory was at the step's beginning
abbrev pub IsGiven : Face → Given → Type 0
IsGiven face one = IsGift face (gives one.row.step one.row.call) one.gift

-- each token tells its front
abbrev pub AlwaysTells : {N : Type 0} → (N → Front) → Type 0
AlwaysTells {N = N} front_of = (token : N) → IsSome (front_of token)

-- the token with which the entry was put, if one is given with it, tells the lowest places of the memory
abbrev pub IsTold : Face → Given → Type 0
IsTold face one = one.gift ≡ (if gives one.row.step one.row.call then Some (Some face.lows) else None)

-- so it is with the entries that are put behind those of the board
abbrev pub AreTold : Face → BoardState → BoardState → Type 0
AreTold face before after = AllByRecursion (IsTold face) (drop (length before.entries) after.entries)

-- ---- what is gained

-- no lowest place is below those of the front
abbrev pub IsMet : Face → Front → Type 0
IsMet face front = IfSome front (λ places. (cell : ℕ) → cell < cell_count face →
    slice_index places cell ≤ low_at face cell)

-- what a token carries is met
abbrev pub IsMetBy : Face → Option Front → Type 0
IsMetBy face front = IfSome front (IsMet face)

-- what each entry that the step put gains of those before it is met; the first entry of the step has this place
abbrev pub AreGainsMet : ℕ → BoardState → List Row → Face → Type 0
AreGainsMet first board rows face = (place : ℕ) → first ≤ place →
    IfSome (slice_get rows place) (λ row. IfSome (gained_by board.ranks (take place board.entries) row) (IsMet face))

-- ---- the answers

-- A step at the board is that of the definition, over the rows as the board keeps them. The rows that it put stand at
-- the end.
pub record StepsAtBoard (before after : RankState) (waiting : Bool) (board board_after : BoardState)
    (face face_after : Face)
    : Type 0 where
  pub rank : after ≡ record before {
    agent = (board_step before.stage before.agent (rows_on board)).agent;
    free =
        after.free;
  }
  pub waits : (board_step before.stage before.agent (rows_on board)).waits ≡ waiting
  pub given : List Given
  pub entries : board_after ≡ record board { entries = board.entries ++ given }
  pub rows : rows_on board_after ≡ rows_on board
      ++ map kept_row (drop (length board.entries) (board_step before.stage before.agent (rows_on board)).rows)
  pub own : AreOwnRows after.stage after.agent (rows_on board_after)
  pub of_rank : AllByRecursion (λ (one : Given). one.row.rank ≡ before.agent.rank) given
  pub gifts : AllByRecursion (IsGiven face) given
  pub gains : AreGainsMet (length board.entries) board_after (board_step before.stage before.agent (rows_on board)).rows
      face_after
  pub unwritten : Unwritten face face_after
  pub moves : face_after.moves ≡ face.moves
  pub pending : after.agent.pending ≡ before.agent.pending
  pub ahead : updates_ahead after ≤ updates_ahead before
  pub few : length after.agent.log ≤ length before.agent.log + 260
  pub free : after.free ≤ before.free

-- the answer to a step at the board, and the rank, the board and the memory after it
abbrev pub IsBoardAnswer : Turned → RankState → RankState → BoardState → BoardState → Face → Face → Type 0
IsBoardAnswer Did before after board board_after face face_after =
    (300 ≤ before.free) × StepsAtBoard before after false board board_after face face_after
IsBoardAnswer NotYet before after board board_after face face_after =
    (300 ≤ before.free) × StepsAtBoard before after true board board_after face face_after
IsBoardAnswer Again before after board board_after face face_after = ⊥
IsBoardAnswer Full before after board board_after face face_after =
    (before.free < 300) × (after ≡ before) × (board_after ≡ board) × (face_after ≡ face)
IsBoardAnswer Ended before after board board_after face face_after = ⊥
