-- The logs of a run, and the names of their items: this project's record of a run.
use Rattle.std.specs.Prelude.{ℕ, ◌+◌, Bool, false, ◌==◌, List, [], ◌∷◌, ◌++◌, slice_get, slice_index_or}
use Rattle.std.specs.List.{count_by, find, flat_map}
use Rattle.std.specs.Option.{option_map_or}
use Rattle.rma_types.specs.declared.accesses.Id.{Id}
use Rattle.rma_types.specs.declared.calls.Call.{Call}
use Rattle.rma_types.specs.declared.scripts.Script.{Script}
use Rattle.rma_record.specs.declared.items.Item.{Item}
use Rattle.rma_record.specs.declared.items.Item.TheVariants.{Entry}
use Rattle.rma_record.specs.declared.runs.Run.{Run}
use Rattle.board_rules.specs.Entries.{Row}
use Rattle.call_rules.specs.Pieces.{numbers_from}
use Rattle.lawful_runs.specs.Items.{is_entry}

-- the log of a rank
abbrev pub log_of : Run → ℕ → List Item
log_of run rank = slice_index_or run.logs rank []

-- the calls of a rank
abbrev pub calls_of : Script → ℕ → List Call
calls_of script rank = slice_index_or script.calls rank []

-- an item with its name
pub record Named : Type 0 where
  pub id : Id
  pub item : Item

-- items of a rank's log, the first of which has this index
abbrev pub named_from : ℕ → ℕ → List Item → List Named
named_from rank index [] = []
named_from rank index (item ∷ items) =
    record { id = record { rank = rank; index = index }; item = item } ∷ named_from rank (index + 1) items

-- the items of a rank's log
abbrev pub named_in : ℕ → List Item → List Named
named_in rank log = named_from rank 0 log

-- the items of logs, the first of which is that of this rank
abbrev pub named_logs : ℕ → List (List Item) → List Named
named_logs rank [] = []
named_logs rank (log ∷ logs) = named_in rank log ++ named_logs (rank + 1) logs

-- all items of a run, in the order of their names
abbrev pub named_items : Run → List Named
named_items run = named_logs 0 run.logs

-- ---- entries

-- the item is the entry at the place
abbrev pub is_entry_at : ℕ → Item → Bool
is_entry_at place (Entry number other step) = other == place
is_entry_at place item = false

abbrev pub is_named_entry_at : ℕ → Named → Bool
is_named_entry_at place one = is_entry_at place one.item

abbrev pub is_some_entry : Named → Bool
is_some_entry one = is_entry one.item

-- the entry at the place, if there is one
abbrev pub entry_at : List Named → ℕ → List Named
entry_at items place = option_map_or (λ one. one ∷ []) (find (is_named_entry_at place) items) []

-- the entries of a run, in the order of their places
abbrev pub entries_of : Run → List Named
entries_of run =
    let items = named_items run in flat_map (entry_at items) (numbers_from 0 (count_by is_some_entry items))

-- the board's row that an item of a rank is: that of an entry, where its call is one of the rank's
abbrev pub row_by : Script → ℕ → Item → List Row
row_by script rank (Entry number place step) = option_map_or
    (λ call. record { rank = rank; number = number; call = call; step = step } ∷ [])
    (slice_get (calls_of script rank) number) []
row_by script rank item = []

abbrev pub row_of : Script → Named → List Row
row_of script one = row_by script one.id.rank one.item

-- the rows of the board, in the order of their places
abbrev pub rows_of : Script → Run → List Row
rows_of script run = flat_map (row_of script) (entries_of run)
