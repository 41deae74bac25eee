-- The history of a cell: its first bits, and the bits that its updates left, in order. The updates of one location
-- follow each other (MPI 3.1, section 11.7.1).
use Rattle.std.specs.Prelude.{◌≡◌, ◌<◌, ◌≤◌, ℕ, ◌+◌, Bool, ◌==◌, ◌&&◌, cond, nat_lt, List, ◌∷◌, length, slice_index}
use Rattle.call_rules.specs.declared.cells.Cell.{Cell}
use Rattle.cell_face.specs.Faces.{Update}

-- the bits that the first updates leave, as many as `place` says
abbrev pub bits_at : ℕ → List ℕ → ℕ → ℕ
bits_at first left place = slice_index (first ∷ left) place

-- for each cell its first bits, and the bits that its updates left
module _ (init : List ℕ) (left : ℕ → List ℕ) where
  -- the cell's bits at a place
  abbrev pub cell_bits : ℕ → ℕ → ℕ
  cell_bits cell place = bits_at (slice_index init cell) (left cell) place

  -- the update is that of its cell at its place
  pub record IsUpdate (update : Update) : Type 0 where
    pub cell : update.cell < length init
    pub place : update.place < length (left update.cell)
    pub before : update.before ≡ cell_bits update.cell update.place
    pub after : update.after ≡ cell_bits update.cell (update.place + 1)

  -- the cell has, or had, this state
  pub record IsState (cell : ℕ) (seen : Cell) : Type 0 where
    pub place : seen.place ≤ length (left cell)
    pub bits : seen.bits ≡ cell_bits cell seen.place

-- the update is of this cell
abbrev pub is_of : ℕ → Update → Bool
is_of cell update = update.cell == cell

-- the update is of this cell, and has this place there
abbrev pub is_at : ℕ → ℕ → Update → Bool
is_at cell place update = (update.cell == cell) && (update.place == place)

-- 1 below the number, else 0
abbrev pub once_below : ℕ → ℕ → ℕ
once_below place count = cond (nat_lt place count) 1 0
