-- What holds of the words and of all seats between any two steps. Word 0 is spare; the word of a cell stands one
-- further.
use Rattle.std.specs.Prelude.{◌≡◌, ◌<◌, ◌≤◌, ℕ, ◌+◌, ◌^◌, List, length, slice_index, sum, sum_by, count_by, Contains}
use mathlib.Core.Option.{some}
use lib.ListN.{get_elem?}
use Rattle.cell_face.specs.Faces.{Update}
use Rattle.cell_words.specs.declared.views.Look.{Look}
use Rattle.cell_words.specs.declared.views.View.{View}
use Rattle.cell_words.specs.Words.{word_of}
use Rattle.cell_words.specs.Histories.{cell_bits, IsUpdate, IsState, is_of, is_at, once_below}
use Rattle.cell_words.specs.Views.{grant_of}

-- what a seat knows is so in the histories
pub record Fits (init : List ℕ) (left : ℕ → List ℕ) (view : View) : Type 0 where
  pub lows : (cell : ℕ) → cell < length init → slice_index view.lows cell ≤ length (left cell)
  pub made : (update : Update) → Contains view.made update → IsUpdate init left update
  pub known : (look : Look) → Contains view.known look → IsState init left look.cell look.seen

-- left: for each cell the bits that its updates left. Each place of a cell is that of one update of one seat. What the
-- seats hold is what was given out.
pub record IsKept (init shares words : List ℕ) (views : List View) : Type 0 where
  pub left : ℕ → List ℕ
  pub count : length words ≡ length init + 1
  pub spare : slice_index words 0 ≡ 0
  pub stored : (cell : ℕ) → cell < length init →
      slice_index words (cell + 1) ≡ word_of (cell_bits init left cell (length (left cell))) (length (left cell))
  pub counts : (cell : ℕ) → sum_by (λ (v : View). count_by (is_of cell) v.made) views ≡ length (left cell)
  pub places : (cell place : ℕ) →
      sum_by (λ (v : View). count_by (is_at cell place) v.made) views ≡ once_below place (length (left cell))
  pub grants : sum_by grant_of views ≡ sum shares
  pub small : sum shares < 2 ^ 32
  pub fits : (id : ℕ) (v : View) → get_elem? views id ≡ some v → Fits init left v
