-- What stays where memory ran out: all items of a log, and all entries of a board.
use Rattle.std.specs.Prelude.{◌≡◌, ℕ, List, ◌++◌, length, map, drop}
use Rattle.std.specs.List.{AllByRecursion}
use Rattle.rma_record.specs.declared.items.Item.{Item}
use Rattle.board_rules.specs.Entries.{Row}
use Rattle.kept_rows.specs.Gifts.{Given, rows_given}
use Rattle.kept_rows.specs.KeptCalls.{kept_row}
use Rattle.sync_board.specs.Boards.{BoardState}

-- the log after a step begins with all items that it had before it, each as it was
abbrev pub KeepsItems : (before after : List Item) → Type 0
KeepsItems before after = (more : List Item) × (after ≡ before ++ more)

-- The board begins with all entries that it had, each as it was. Those that follow are of this rank, and are the first
-- of those that a step puts which leaves these rows. The board is otherwise the same.
pub record PutsFirst (rank : ℕ) (rows : List Row) (before after : BoardState) : Type 0 where
  pub given : List Given
  pub entries : after ≡ record before { entries = before.entries ++ given }
  pub of_rank : AllByRecursion (λ (one : Given). one.row.rank ≡ rank) given
  pub rest : List Row
  pub first : map kept_row (drop (length before.entries) rows) ≡ rows_given given ++ rest
