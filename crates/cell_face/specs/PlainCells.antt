-- A memory that one thread uses alone.
use Rattle.std.specs.Prelude.{◌≡◌, ◌<◌, ◌⊎◌, ℕ, List, [], map, None, Some}
use Rattle.call_rules.specs.declared.cells.Cell.{Cell}
use Rattle.call_rules.specs.Touches.{cell_at}
use Rattle.cell_face.specs.Faces.{Face}

-- its cells, how many updates may still be made, and how often an attempt came too late
pub record PlainCells : Type 0 where
  pub cells : List Cell
  pub share : ℕ
  pub moves : ℕ

-- it tells its cells; nothing earlier than the present state of a cell can still be seen
abbrev pub plain_face : PlainCells → Face
plain_face memory = record {
  lows = map (λ (cell : Cell). cell.place) memory.cells;
  share = memory.share;
  grant = [];
  moves = memory.moves;
  name = [];
  updates = None;
  told = Some memory.cells;
}

-- the state is an earlier one, or it is the present one
abbrev pub IsPresentOrPast : List Cell → ℕ → Cell → Type 0
IsPresentOrPast cells cell seen = (seen.place < (cell_at cells cell).place) ⊎ (seen ≡ cell_at cells cell)
