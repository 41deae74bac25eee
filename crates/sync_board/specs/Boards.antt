-- What a board is, and what it answers the next entry: MPI 3.1, sections 11.2, 11.5 and 11.7, in this project's
-- profile.
use Rattle.std.specs.Prelude.{ℕ, ◌≡◌, ◌+◌, ◌<◌, ◌≤◌, Bool, true, false, if◌then◌else◌, is_some, List, [], ◌∷◌, ◌++◌}
use Rattle.std.specs.Prelude.{length, slice_get, Option, Some, None, IfSome}
use Rattle.std.specs.Option.{option_map, option_map_or}
use Rattle.rma_types.specs.declared.accesses.Step.{Step}
use Rattle.rma_types.specs.declared.accesses.Step.TheVariants.{Arrive, Leave, One}
use Rattle.rma_types.specs.declared.calls.Call.{Call}
use Rattle.rma_types.specs.declared.scripts.Layout.{Layout}
use Rattle.rma_types.specs.declared.scripts.MemoryPart.{MemoryPart}
use Rattle.rma_types.specs.declared.scripts.Part.{Part}
use Rattle.rma_types.specs.declared.actions.Action.{Action}
use Rattle.rma_types.specs.declared.actions.Action.TheVariants.{Creates, Frees, Attaches, Detaches, Synchronises, Meets}
use Rattle.rma_types.specs.declared.actions.Action.TheVariants.{Moves, EndsRequest}
use Rattle.rma_types.specs.declared.actions.Creation.{Creation}
use Rattle.rma_types.specs.declared.actions.Transfer.{Transfer}
use Rattle.rma_types.specs.Actions.{action_of, creation_of, transfer_of}
use Rattle.call_rules.specs.Ranks.{natural}
use Rattle.call_rules.specs.Transfers.{rank_reached, bytes_of}
use Rattle.call_rules.specs.WellFormed.{IsWrittenCall}
use Rattle.rank_rules.specs.EpochTests.{names_wrong_rank, is_wrong_target}
use Rattle.rank_rules.specs.Windows.{part_at}
use Rattle.board_rules.specs.Board.{Refuse, Allow, NotYet, decide}
use Rattle.board_rules.specs.Entries.{Row, acts, window_of, collective_of}
use Rattle.board_rules.specs.Shapes.{part_made, parts_of}
use Rattle.kept_rows.specs.Gifts.{Front, Given, rows_given, gained_by}
use Rattle.kept_rows.specs.KeptCalls.{kept_row}
use Rattle.window_regions.specs.Shapes.{IsShape}
use Rattle.window_regions.specs.declared.window.Shape.{Shape}
use Rattle.sync_board.specs.declared.answers.Decided.{Decided}
use Rattle.sync_board.specs.declared.answers.Decided.TheVariants.{Entered, NotYet as NotYetEntered, Refused}
use Rattle.sync_board.specs.declared.answers.EntryRow.{EntryRow}

-- A board: the number of ranks, the layout of their memory, the name of the memory from which tokens come, and the
-- entries in the order of their places, with their calls as they are kept.
pub record BoardState : Type 0 where
  pub ranks : ℕ
  pub layout : Layout
  pub name : List ℕ
  pub entries : List Given

abbrev pub rows_on : BoardState → List Row
rows_on board = rows_given board.entries

-- the entry as users of the board see it
abbrev pub entry_row : Given → EntryRow
entry_row one = record { rank = one.row.rank; call = one.row.number; step = one.row.step }

-- the rank that an entry belongs to
abbrev pub rank_of : Given → ℕ
rank_of one = one.row.rank

-- the board as it was before its first entry: what never changes of it
abbrev pub before_entries : BoardState → BoardState
before_entries board = record board { entries = [] }

-- the front is that of some token
pub record IsFrontOfToken {N : Type 0} (front_of : N → Front) (front : Front) : Type 0 where
  pub token : N
  pub same : front ≡ front_of token

-- the gift of the entry, if it has one, is the front of some token
abbrev pub IsGiftOfToken : {N : Type 0} → (N → Front) → Given → Type 0
IsGiftOfToken front_of one = IfSome one.gift (IsFrontOfToken front_of)

-- ---- what may be asked

-- the bytes of a rank's memory, and none where there is no such rank
abbrev pub bytes_at : Layout → ℕ → ℕ
bytes_at layout rank = option_map_or (λ (part : MemoryPart). part.bytes) (slice_get layout.parts rank) 0

abbrev pub NamesRanks : ℕ → Action → Type 0
NamesRanks ranks (Creates creation) = Unit {0}
NamesRanks ranks (Frees win) = Unit {0}
NamesRanks ranks (Attaches win base bytes) = Unit {0}
NamesRanks ranks (Detaches win base) = Unit {0}
NamesRanks ranks (Synchronises win s) = names_wrong_rank ranks s ≡ false
NamesRanks ranks Meets = Unit {0}
NamesRanks ranks (Moves t) = is_wrong_target ranks t.target ≡ false
NamesRanks ranks (EndsRequest req) = Unit {0}

-- the range that a call brings to a window lies in the memory of its rank
abbrev pub BringsInside : Layout → ℕ → ℕ → Action → Type 0
BringsInside layout rank number (Creates creation) =
    let part = part_made layout rank number creation in part.base + part.bytes ≤ bytes_at layout rank
BringsInside layout rank number (Frees win) = Unit {0}
BringsInside layout rank number (Attaches win base bytes) =
    (1 ≤ natural bytes) × (natural base + natural bytes ≤ bytes_at layout rank)
BringsInside layout rank number (Detaches win base) = Unit {0}
BringsInside layout rank number (Synchronises win s) = Unit {0}
BringsInside layout rank number Meets = Unit {0}
BringsInside layout rank number (Moves t) = Unit {0}
BringsInside layout rank number (EndsRequest req) = Unit {0}

-- collective calls have an Arrive and a Leave, every other call one step
abbrev pub is_step_of : Step → Call → Bool
is_step_of Arrive call = is_some (collective_of call)
is_step_of Leave call = is_some (collective_of call)
is_step_of One call = if is_some (collective_of call) then false else true

-- What is asked of an entry that is only judged: a rank of the run; a call that a line can say, and that passed the
-- rank's own tests of ranks; and a step of that call. Of which number the call is, does not matter.
pub record MayJudge (ranks rank : ℕ) (call : Call) (step : Step) : Type 0 where
  pub below : rank < ranks
  pub written : IsWrittenCall call
  pub names : NamesRanks ranks (action_of call)
  pub fits : is_step_of step call ≡ true

-- What is asked of a next entry: it may be judged, and the range that its call brings lies in the memory of its rank.
pub record MayAsk (ranks : ℕ) (layout : Layout) (row : Row) : Type 0 where
  pub entry : MayJudge ranks row.rank row.call row.step
  pub inside : BringsInside layout row.rank row.number (action_of row.call)

-- A layout of a run of so many ranks: a part of memory for each, of at most 65,536 bytes, and a list of bases for each.
pub record IsLayoutOf (ranks : ℕ) (layout : Layout) : Type 0 where
  pub parts : length layout.parts ≡ ranks
  pub bases : length layout.bases ≡ ranks
  pub bytes : (rank : ℕ) → bytes_at layout rank ≤ 65536

-- ---- the answers

-- the board with one entry more
abbrev pub with_entry : BoardState → Row → Option Front → BoardState
with_entry board row gift = record board { entries = board.entries ++ record { row = kept_row row; gift = gift } ∷ [] }

-- the parts lie in their ranks' memories
abbrev pub ArePartsInside : Layout → ℕ → List Part → Type 0
ArePartsInside layout ranks parts =
    (rank : ℕ) → rank < ranks → (part_at parts rank).base + (part_at parts rank).bytes ≤ bytes_at layout rank

-- the shape of the window that a creation makes, at its Leave: of the flavor of the call, and of the parts that the
-- ranks' arrivals brought, each inside its rank's memory
pub record IsShapeMade (board : BoardState) (row : Row) (creation : Creation) (shape : Shape) : Type 0 where
  pub flavor : shape.flavor ≡ creation.flavor
  pub parts : shape.parts ≡ parts_of board.layout board.ranks (acts (rows_on board)) (window_of (rows_on board) row)
  pub count : length shape.parts ≡ board.ranks
  pub inside : ArePartsInside board.layout board.ranks shape.parts
  pub is_shape : IsShape shape.flavor shape.parts

-- a window is made exactly at the Leave of a creation
abbrev pub IsMadeOf : BoardState → Row → Option Creation → Option Shape → Type 0
IsMadeOf board row None made = made ≡ None
IsMadeOf board row (Some creation) None = ⊥
IsMadeOf board row (Some creation) (Some shape) = IsShapeMade board row creation shape

abbrev pub IsMadeBy : BoardState → Row → Step → Option Shape → Type 0
IsMadeBy board row Arrive made = made ≡ None
IsMadeBy board row Leave made = IsMadeOf board row (creation_of row.call) made
IsMadeBy board row One made = made ≡ None

-- each byte of the range of a look-up lies in the memory of its target
abbrev pub LooksInside : Layout → ℕ → Transfer → Type 0
LooksInside layout rank t = (address : ℕ) → natural t.disp ≤ address → address < natural t.disp + bytes_of t →
    address < bytes_at layout (rank_reached rank t.target)

-- the entry stands at the end: its place, what it gained, and the window that it made
pub record IsEntered {N : Type 0} (front : N → Front) (origin : N → List ℕ) (before : BoardState) (row : Row)
    (gift : Option Front) (place : ℕ) (gained : Option N) (made : Option Shape) (after : BoardState) : Type 0 where
  pub allowed : decide before.ranks (rows_on before) row ≡ Allow
  pub at_end : place ≡ length before.entries
  pub put : after ≡ with_entry before row gift
  pub gains : option_map front gained ≡ gained_by before.ranks before.entries row
  pub from : IfSome gained (λ token. origin token ≡ before.name)
  pub makes : IsMadeBy before row row.step made
  pub look_up : IfSome (transfer_of row.call) (LooksInside before.layout row.rank)

-- the answer to a next entry, and the board after it; a gift that is not kept comes back
abbrev pub IsAnswer : {N : Type 0} → (N → Front) → (N → List ℕ) → BoardState → Row → Option N → Decided N → BoardState →
    Type 0
IsAnswer front origin before row gift (Entered place gained made) after =
    IsEntered front origin before row (option_map front gift) place gained made after
IsAnswer front origin before row gift (NotYetEntered back) after =
    (decide before.ranks (rows_on before) row ≡ NotYet) × (back ≡ gift) × (after ≡ before)
IsAnswer front origin before row gift (Refused class seen back) after =
    (decide before.ranks (rows_on before) row ≡ Refuse class) × (seen ≡ length before.entries) × (back ≡ gift)
    × (after ≡ before)
