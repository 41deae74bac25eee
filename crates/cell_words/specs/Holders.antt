-- The cells, and who holds a view of them.
use Rattle.std.specs.Prelude.{◌≡◌, ℕ, ◌+◌, List, ◌∷◌, [], map, length, Contains, Some, None}
use Rattle.atomic_table.specs.Seated.{TableId}
use Rattle.call_rules.specs.declared.cells.Cell.{Cell}
use Rattle.cell_face.specs.Faces.{Face}
use Rattle.cell_words.specs.declared.views.View.{View}
use Rattle.cell_words.specs.Views.{held, look, fresh, zeros}

-- the cells: their table, the first bits of each, and the shares that were given out
pub record SharedCells : Type 0 where
  pub table : TableId
  pub init : List ℕ
  pub shares : List ℕ

-- a pass, which is no seat at the moment
pub record Passed : Type 0 where
  pub table : TableId
  pub view : View

-- a pass that has a share and knows nothing yet
abbrev pub new_pass : TableId → List ℕ → ℕ → Passed
new_pass table init share = record { table = table; view = fresh (zeros init) share [] }

-- what the passes know
abbrev pub views_of : List Passed → List View
views_of passes = map (λ (pass : Passed). pass.view) passes

-- a seat, and how often an attempt of it came too late
pub record Seated : Type 0 where
  pub table : TableId
  pub view : View
  pub moves : ℕ

-- a note, which has lowest places alone
pub record Noted : Type 0 where
  pub table : TableId
  pub lows : List ℕ

-- the table's name: all its numbers
abbrev pub name_of : TableId → List ℕ
name_of table =
    table.words ∷ table.slots ∷ table.views_name ∷ table.atom ∷ table.block ∷ table.offset ∷ table.slot_names

-- what a seat shows of itself
abbrev pub face_of : Seated → Face
face_of seat = record {
  lows = seat.view.lows;
  share = seat.view.share;
  grant = held seat.view ∷ [];
  moves = seat.moves;
  name = name_of seat.table;
  updates = Some seat.view.made;
  told = None;
}

-- the state was seen through this seat
abbrev pub knows : Seated → ℕ → Cell → Type 0
knows seat cell seen = Contains seat.view.known (look cell seen)

-- there are as many lowest places as cells: the table has one word more
abbrev pub IsWhole : TableId → List ℕ → Type 0
IsWhole table lows = length lows + 1 ≡ table.words
