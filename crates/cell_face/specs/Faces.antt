-- What a memory shows of itself, and what its calls do to that. A cell is 4 bytes; a place is the number of updates
-- that the cell had before.
use Rattle.std.specs.Prelude.{◌≡◌, ◌≢◌, ◌<◌, ◌≤◌, ◌⊎◌, ℕ, ◌+◌, ◌-◌, ◌^◌, List, [], ◌∷◌, ◌++◌, length, Option, IfSome}
use Rattle.std.specs.Prelude.{slice_index, slice_set}
use Rattle.std.specs.Option.{option_map}
use Rattle.call_rules.specs.declared.cells.Cell.{Cell}
use Rattle.call_rules.specs.Touches.{cell_at}

-- one update of a cell: its place, and the bits before and after it
pub record Update : Type 0 where
  pub cell : ℕ
  pub place : ℕ
  pub before : ℕ
  pub after : ℕ

-- All plain data of a memory. lows: for each cell its lowest place, the least that may still be seen there. share: how
-- many updates may still be made. moves: how often an attempt came too late. updates: those made through this value,
-- where it tells them. told: the state of each cell, where it tells them.
pub record Face : Type 0 where
  pub lows : List ℕ
  pub share : ℕ
  pub grant : List ℕ
  pub moves : ℕ
  pub name : List ℕ
  pub updates : Option (List Update)
  pub told : Option (List Cell)

-- how many cells there are
abbrev pub cell_count : Face → ℕ
cell_count face = length face.lows

-- the lowest place of a cell
abbrev pub low_at : Face → ℕ → ℕ
low_at face cell = slice_index face.lows cell

-- what no call changes, and no lowest place falls
pub record Stays (before after : Face) : Type 0 where
  pub cells : cell_count after ≡ cell_count before
  pub lows : (cell : ℕ) → low_at before cell ≤ low_at after cell
  pub grant : after.grant ≡ before.grant
  pub name : after.name ≡ before.name

-- a call that makes no update
pub record Unwritten (before after : Face) : Type 0 where
  pub stays : Stays before after
  pub share : before.share ≤ after.share
  pub updates : after.updates ≡ before.updates
  pub told : after.told ≡ before.told

-- the count of moves rose, or stands at its end
abbrev pub Rose : ℕ → ℕ → Type 0
Rose before after = (before ≤ after) × ((before < after) ⊎ (after ≡ 2 ^ 64 - 1))

-- the state is that of the cell, where states are told
abbrev pub IsToldAt : Face → ℕ → Cell → Type 0
IsToldAt face cell seen = IfSome face.told (λ cells. seen ≡ cell_at cells cell)

-- a state of the cell is seen, and no update is made
pub record Looks (before after : Face) (cell : ℕ) (seen : Cell) : Type 0 where
  pub unwritten : Unwritten before after
  pub moves : after.moves ≡ before.moves
  pub told_state : IsToldAt before cell seen
  pub not_below : low_at before cell ≤ seen.place
  pub raised : seen.place ≤ low_at after cell

-- the state in which an update leaves a cell
abbrev pub state_after : ℕ → Cell → Cell
state_after bits seen = record { bits = bits; place = seen.place + 1 }

-- one update of the cell is made on the state that was seen, and leaves these bits
pub record Updates (before after : Face) (cell : ℕ) (seen : Cell) (bits : ℕ) : Type 0 where
  pub stays : Stays before after
  pub share : before.share ≤ after.share + 1
  pub moves : after.moves ≡ before.moves
  pub updates : after.updates ≡ option_map
      (λ made. made ++ record { cell = cell; place = seen.place; before = seen.bits; after = bits } ∷ []) before.updates
  pub told : after.told ≡ option_map (λ cells. slice_set cells cell (state_after bits seen)) before.told
  pub told_place : IfSome before.told (λ cells. seen.place ≡ (cell_at cells cell).place)
  pub not_below : low_at before cell ≤ seen.place
  pub raised : seen.place < low_at after cell

-- the cell had moved on from the state that was expected: nothing is written
pub record Moves (before after : Face) (cell : ℕ) (expected seen : Cell) : Type 0 where
  pub unwritten : Unwritten before after
  pub moves : Rose before.moves after.moves
  pub later : expected.place < seen.place
  pub told_place : IfSome before.told (λ cells. expected.place ≢ (cell_at cells cell).place)
  pub not_below : low_at before cell ≤ seen.place
  pub raised : seen.place ≤ low_at after cell

-- a token is given, whose front is that of the lowest places
pub record Gives (before after : Face) (note_front : Option (List ℕ)) (note_origin : List ℕ) : Type 0 where
  pub unwritten : Unwritten before after
  pub moves : after.moves ≡ before.moves
  pub front : IfSome note_front (λ places. places ≡ before.lows)
  pub origin : note_origin ≡ before.name

-- a token is taken: the lowest places rise to those of its front
pub record Takes (before after : Face) (note_front : Option (List ℕ)) : Type 0 where
  pub unwritten : Unwritten before after
  pub moves : after.moves ≡ before.moves
  pub raised : IfSome note_front (λ places. (cell : ℕ) → cell < cell_count before →
      slice_index places cell ≤ low_at after cell)

-- what was known is still known
abbrev pub Keeps : (ℕ → Cell → Type 0) → (ℕ → Cell → Type 0) → Type 0
Keeps knew knows = (cell : ℕ) (seen : Cell) → knew cell seen → knows cell seen
