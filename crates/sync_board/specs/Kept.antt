-- What a board keeps beside its list of entries is what they have done and given.
use Rattle.std.specs.Prelude.{ℕ, ◌≤◌, List, length}
use Rattle.rma_types.specs.declared.scripts.Layout.{Layout}
use Rattle.kept_rows.specs.Gifts.{Front, rows_given}
use Rattle.entry_gains.specs.Gains.{IsSound, Keeps}
use Rattle.entry_gains.specs.declared.gains.Gains.{Gains}
use Rattle.sync_board.specs.Boards.{IsLayoutOf}
use Rattle.sync_board.specs.Counted.{KeepsState}
use Rattle.sync_board.specs.Lists.{IsList, entries_in}
use Rattle.sync_board.specs.declared.lists.EntryList.{EntryList}
use Rattle.sync_board.specs.declared.state.State.{State}

pub record IsKept {N : Type 0} (front : N → Front) (origin : N → List ℕ) (ranks : ℕ) (layout : Layout)
    (list : EntryList N) (state : State) (gains : Gains N) (root : N) : Type 0 where
  pub few : ranks ≤ 16
  pub layout_of : IsLayoutOf ranks layout
  pub sizes : IsList list
  pub short : length list.rows.items ≤ 4294967295
  pub done : KeepsState layout ranks (rows_given (entries_in front list)) state
  pub given : Keeps front ranks (entries_in front list) gains
  pub sound : IsSound origin (origin root) gains
