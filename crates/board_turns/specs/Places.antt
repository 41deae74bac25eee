-- A turn round a board and the seats at it, as plain data.
use Rattle.std.specs.Prelude.{ℕ, ◌≡◌, ◌≢◌, List, [], ◌++◌, Bool, false, All}
use Rattle.atomic_table.specs.Seated.{TableId}
use Rattle.kept_rows.specs.Gifts.{Given}
use Rattle.sync_board.specs.Boards.{BoardState, rank_of}

-- a turn: which it is, and its board as it was before the first entry
pub record Round : Type 0 where
  pub table : TableId
  pub first : BoardState

-- a turn as its seats share it: which it is, and how many seats it has
pub record SharedTurn : Type 0 where
  pub round : Round
  pub seats : ℕ

-- a seat: the turn that it is at, its number, the entries as it last had them, and whether it has the board
pub record Place : Type 0 where
  pub turn : Round
  pub number : ℕ
  pub known : List Given
  pub holds : Bool

-- the board with these entries
abbrev pub with_entries : BoardState → List Given → BoardState
with_entries board entries = record board { entries = entries }

-- the entries go on from those that were known by entries of other ranks than this
abbrev pub AddsOthers : ℕ → List Given → List Given → Type 0
AddsOthers number known entries =
    (others : List Given) × (entries ≡ known ++ others) × All (λ (one : Given). rank_of one ≢ number) others

-- a seat that knows nothing yet
abbrev pub new_place : Round → ℕ → Place
new_place turn number = record { turn = turn; number = number; known = []; holds = false }

-- the turn and the number of a seat stay
abbrev pub IsSameSeat : Place → Place → Type 0
IsSameSeat old new = (new.turn ≡ old.turn) × (new.number ≡ old.number)
