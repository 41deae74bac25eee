-- A pass that a thread may add through.
use Rattle.std.specs.Prelude.{◌≡◌, ◌<◌, ℕ, length, Option, Some}
use Rattle.cell_words.specs.Views.{held}
use Rattle.cell_words.specs.Holders.{SharedCells, Passed}

-- it is of these cells, holds so much, and knows the cell
pub record IsReady (cells : SharedCells) (holds cell : ℕ) (pass : Passed) : Type 0 where
  pub table_is : pass.table ≡ cells.table
  pub held_is : held pass.view ≡ holds
  pub cell_is : cell < length pass.view.lows

-- there is a pass, and a thread may add to the first cell through it
pub record IsReadyOption (cells : SharedCells) (holds : ℕ) (pass : Option Passed) : Type 0 where
  pub one : Passed
  pub some : pass ≡ Some one
  pub ready : IsReady cells holds 0 one
