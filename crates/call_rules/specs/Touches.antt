-- The touches of an access: each of its elements once, in order, each on its cell's state at that moment. MPI 3.1,
-- section 11.7.1, in this project's profile.
use Rattle.std.specs.Prelude.{ℕ, ◌+◌, List, [], ◌∷◌, slice_index_or, slice_set, Option, Some, None}
use Rattle.rma_record.specs.declared.items.Item.{Item}
use Rattle.rma_record.specs.declared.items.Item.TheVariants.{Touch}
use Rattle.call_rules.specs.declared.cells.Cell.{Cell}
use Rattle.call_rules.specs.declared.elements.Change.{Change}
use Rattle.call_rules.specs.declared.elements.Piece.{Piece}
use Rattle.rma_types.specs.declared.actions.Transfer.{Transfer}
use Rattle.call_rules.specs.Elements.{next}
use Rattle.call_rules.specs.Transfers.{change_of}

-- a cell that had no update
abbrev pub empty_cell : Cell
empty_cell = record { bits = 0; place = 0 }

abbrev pub cell_at : List Cell → ℕ → Cell
cell_at cells cell = slice_index_or cells cell empty_cell

-- the cell after an update
abbrev pub update_cell : Cell → Change → Cell
update_cell cell change = record { bits = next cell.bits change; place = cell.place + 1 }

-- the cells after one more touch, which changes its cell where it is an update
abbrev pub cells_after : List Cell → ℕ → Option Change → List Cell
cells_after cells cell None = cells
cells_after cells cell (Some change) = slice_set cells cell (update_cell (cell_at cells cell) change)

-- the cells and the Touch items that touches leave
pub record Touched : Type 0 where
  pub cells : List Cell
  pub items : List Item

-- the elements at these pieces are touched, the first of them having this number, each on its cell's state at that
-- moment
abbrev pub touch_each : Transfer → ℕ → ℕ → List Piece → List Cell → Touched
touch_each t issue element [] cells = record { cells = cells; items = [] }
touch_each t issue element (piece ∷ pieces) cells =
    let seen = cell_at cells piece.cell in
    let rest = touch_each t issue (element + 1) pieces
    (cells_after cells piece.cell (change_of t element piece.first_byte)) in
    record { cells = rest.cells; items = Touch issue element piece.cell seen.place seen.bits ∷ rest.items }
