-- The list of entries, as the board keeps it.
use Rattle.std.specs.Prelude.{◌≡◌, ◌<◌, List, [], ◌∷◌, length}
use Rattle.std.specs.Option.{option_map}
use Rattle.std.specs.Vec.{vec_capacity, vec_len}
use Rattle.kept_rows.specs.Gifts.{Front, Given}
use Rattle.sync_board.specs.declared.answers.EntryRow.{EntryRow}
use Rattle.sync_board.specs.declared.lists.EntryList.{EntryList}
use Rattle.sync_board.specs.declared.lists.Kept.{Kept}

abbrev pub given_of : {N : Type 0} → (N → Front) → EntryRow → Kept N → Given
given_of front row kept = record {
  row = record { rank = row.rank; number = row.call; call = kept.call; step = row.step };
  gift = option_map front kept.gift;
}

abbrev pub givens : {N : Type 0} → (N → Front) → List EntryRow → List (Kept N) → List Given
givens front [] kept = []
givens front (row ∷ rows) [] = []
givens front (row ∷ rows) (one ∷ kept) = given_of front row one ∷ givens front rows kept

-- the entries of the list
abbrev pub entries_in : {N : Type 0} → (N → Front) → EntryList N → List Given
entries_in front list = givens front list.rows.items list.kept.items

-- one row for each call and gift
abbrev pub IsList : {N : Type 0} → EntryList N → Type 0
IsList list = length list.rows.items ≡ length list.kept.items

-- room for one entry more
pub record HasSpace {N : Type 0} (list : EntryList N) : Type 0 where
  pub rows : vec_len list.rows < vec_capacity list.rows
  pub kept : vec_len list.kept < vec_capacity list.kept
  pub few : vec_len list.rows < 4294967295
