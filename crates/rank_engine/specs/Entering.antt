-- How a step at the board is made of entries: what is asked of one, what the board answered it, and where the rank
-- stands after it. MPI 3.1, sections 11.2 and 11.5, in this project's profile.
use Rattle.std.specs.Prelude.{ℕ, ◌≡◌, ◌+◌, ◌<◌, ◌≤◌, Bool, true, false, List, ◌++◌, length, map, drop, Option, Some}
use Rattle.std.specs.Prelude.{None, IfSome}
use Rattle.std.specs.List.{AllByRecursion}
use Rattle.rma_types.specs.declared.accesses.Step.{Step}
use Rattle.rma_types.specs.declared.accesses.Step.TheVariants.{Arrive, Leave, One}
use Rattle.rma_types.specs.declared.calls.Call.{Call}
use Rattle.board_rules.specs.Board.{Refuse, Allow, NotYet as NotYetDecided, decide}
use Rattle.board_rules.specs.Entries.{Row}
use Rattle.rma_types.specs.Actions.{transfer_of}
use Rattle.call_rules.specs.WellFormed.{IsWrittenCall}
use Rattle.cell_face.specs.Faces.{Face, Unwritten}
use Rattle.kept_rows.specs.Gifts.{Front, Given, gained_by}
use Rattle.kept_rows.specs.KeptCalls.{kept_row}
use Rattle.rank_rules.specs.Courses.{Course, OneNull, OneIssue, LookUpAndIssue, OneFlush, OneRequest, ArriveAndLeave}
use Rattle.rank_rules.specs.Courses.{EntryOrTested, OneEntry}
use Rattle.rank_rules.specs.Knowledge.{own_class}
use Rattle.step_runs.specs.Agents.{next_call}
use Rattle.step_runs.specs.BoardSteps.{AtBoard}
use Rattle.sync_board.specs.Boards.{BoardState, IsMadeBy, LooksInside, rows_on, with_entry}
use Rattle.rank_engine.specs.BoardAnswers.{AreGainsMet, IsBoardOf, IsGift, IsGiven, IsMet, gives}
use Rattle.rank_engine.specs.RankStates.{RankState, AreOwnRows}
use Rattle.rank_engine.specs.Shares.{updates_ahead}
use Rattle.rank_engine.specs.declared.answers.Turned.{Turned}
use Rattle.rank_engine.specs.declared.answers.Turned.TheVariants.{Did, NotYet, Again, Full, Ended}
use Rattle.rank_engine.specs.declared.asking.Answer.{Answer}
use Rattle.rank_engine.specs.declared.asking.Answer.TheVariants.{Entered, NotYetEntered, Refused}

-- ---- one entry at the board

-- the entry was put, with its gift, and what it gained is met
pub record IsPut (row : Row) (place : ℕ) (board board_after : BoardState) (face face_after : Face) : Type 0 where
  pub allowed : decide board.ranks (rows_on board) row ≡ Allow
  pub at_end : place ≡ length board.entries
  pub gift : Option Front
  pub put : board_after ≡ with_entry board row gift
  pub given : IsGift face (gives row.step row.call) gift
  pub gained : IfSome (gained_by board.ranks board.entries row) (IsMet face_after)
  pub look_up : IfSome (transfer_of row.call) (LooksInside board.layout row.rank)

-- the answer to the entry, and the board after it
abbrev pub IsAnswered : Row → Answer → BoardState → BoardState → Face → Face → Type 0
IsAnswered row (Entered place made) board board_after face face_after =
    IsPut row place board board_after face face_after × IsMadeBy board row row.step made
IsAnswered row NotYetEntered board board_after face face_after =
    (decide board.ranks (rows_on board) row ≡ NotYetDecided) × (board_after ≡ board)
IsAnswered row (Refused class seen) board board_after face face_after =
    (decide board.ranks (rows_on board) row ≡ Refuse class) × (seen ≡ length board.entries) × (board_after ≡ board)

-- the memory after an entry: only tokens were given and met
pub record IsHandedOver (face face_after : Face) : Type 0 where
  pub unwritten : Unwritten face face_after
  pub moves : face_after.moves ≡ face.moves

-- ---- what is asked of an entry

-- a call with these items opens with this step, and has another item after it
abbrev pub IsOpening : Step → Course → Type 0
IsOpening Arrive course = course ≡ ArriveAndLeave
IsOpening Leave course = ⊥
IsOpening One course = course ≡ LookUpAndIssue

-- a call of one entry
abbrev pub IsOneEntry : Course → Type 0
IsOneEntry OneNull = ⊥
IsOneEntry OneIssue = ⊥
IsOneEntry LookUpAndIssue = ⊥
IsOneEntry OneFlush = ⊥
IsOneEntry OneRequest = ⊥
IsOneEntry ArriveAndLeave = ⊥
IsOneEntry EntryOrTested = Unit {0}
IsOneEntry OneEntry = Unit {0}

-- a call with these items ends with this step: a Leave after its Arrive, or the one entry
abbrev pub IsClosing : Step → Bool → Course → Type 0
IsClosing Arrive entered course = ⊥
IsClosing Leave entered course = (entered ≡ true) × (course ≡ ArriveAndLeave)
IsClosing One entered course = (entered ≡ false) × IsOneEntry course

-- the rank's next call may be asked of the board
pub record IsReady (state : RankState) (call : Call) (board : BoardState) (face : Face) : Type 0 where
  pub here : next_call state.stage state.agent ≡ Some call
  pub own : own_class state.agent.known call ≡ None
  pub closed : state.opened ≡ None
  pub within : state.agent.at < 65536
  pub written : IsWrittenCall call
  pub board_is : IsBoardOf state board face
  pub free : 1 ≤ state.free

-- ---- steps

-- the rank, the board and the memory after a step that the definition takes to this
pub record StepsTo (to : AtBoard) (before after : RankState) (board board_after : BoardState) (face face_after : Face)
    : Type 0 where
  pub rank : after ≡ record before { agent = to.agent; free = after.free }
  pub given : List Given
  pub entries : board_after ≡ record board { entries = board.entries ++ given }
  pub rows : rows_on board_after ≡ rows_on board ++ map kept_row (drop (length board.entries) to.rows)
  pub own : AreOwnRows after.stage after.agent (rows_on board_after)
  pub of_rank : AllByRecursion (λ (one : Given). one.row.rank ≡ before.agent.rank) given
  pub gifts : AllByRecursion (IsGiven face) given
  pub gains : AreGainsMet (length board.entries) board_after to.rows face_after
  pub handed : IsHandedOver face face_after
  pub pending : after.agent.pending ≡ before.agent.pending
  pub ahead : updates_ahead after ≤ updates_ahead before
  pub below : after.free ≤ before.free

-- an answer says whether the rank waits
abbrev pub SaysWaits : Turned → Bool → Type 0
SaysWaits Did waits = waits ≡ false
SaysWaits NotYet waits = waits ≡ true
SaysWaits Again waits = ⊥
SaysWaits Full waits = ⊥
SaysWaits Ended waits = ⊥

-- the answer to a step, at most so many items of which were kept
pub record IsTurn (turned : Turned) (items : ℕ) (to : AtBoard) (before after : RankState)
    (board board_after : BoardState)
    (face face_after : Face) : Type 0 where
  pub says : SaysWaits turned to.waits
  pub steps : StepsTo to before after board board_after face face_after
  pub few : length after.agent.log ≤ length before.agent.log + items
  pub above : before.free ≤ after.free + items
