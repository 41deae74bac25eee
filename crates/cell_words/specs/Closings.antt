-- What the cells are when they are closed: one history a cell, which all seats share.
use Rattle.std.specs.Prelude.{◌≡◌, ◌<◌, ℕ, ◌+◌, List, [], length, slice_index, sum_by, count_by, Contains}
use Rattle.cell_face.specs.Faces.{Update}
use Rattle.cell_words.specs.declared.views.Look.{Look}
use Rattle.cell_words.specs.declared.views.View.{View}
use Rattle.cell_words.specs.Words.{seen_in}
use Rattle.cell_words.specs.Views.{held}
use Rattle.cell_words.specs.Histories.{cell_bits, IsUpdate, IsState, is_of, is_at, once_below}

-- left: for each cell the bits that its updates left. The last of them are the final bits, each place of a cell is that
-- of one update of one seat, and what each seat made and saw is so in that history.
pub record IsHistory (init finals : List ℕ) (views : List View) : Type 0 where
  pub left : ℕ → List ℕ
  pub cells : length finals ≡ length init
  pub final : (cell : ℕ) → cell < length init →
      slice_index finals cell ≡ cell_bits init left cell (length (left cell))
  pub counts : (cell : ℕ) → sum_by (λ (v : View). count_by (is_of cell) v.made) views ≡ length (left cell)
  pub places : (cell place : ℕ) →
      sum_by (λ (v : View). count_by (is_at cell place) v.made) views ≡ once_below place (length (left cell))
  pub made : (v : View) → Contains views v → (update : Update) → Contains v.made update → IsUpdate init left update
  pub known : (v : View) → Contains views v → (look : Look) → Contains v.known look →
      IsState init left look.cell look.seen

-- the bits of all cells, from their words
pub record AreBitsOf (words finals : List ℕ) : Type 0 where
  pub cells : length finals + 1 ≡ length words
  pub bits : (cell : ℕ) → cell < length finals →
      slice_index finals cell ≡ (seen_in (slice_index words (cell + 1))).bits

-- one view has what these had, and nothing to deal
pub record Gathers (views : List View) (view : View) : Type 0 where
  pub weights : (weight : Update → ℕ) →
      sum_by (λ (v : View). sum_by weight v.made) views ≡ sum_by weight view.made
  pub held : sum_by held views ≡ held view
  pub deal : view.deal ≡ []
  pub made : (v : View) → Contains views v → (update : Update) → Contains v.made update → Contains view.made update
  pub known : (v : View) → Contains views v → (look : Look) → Contains v.known look → Contains view.known look
