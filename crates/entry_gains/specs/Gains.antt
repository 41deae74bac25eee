-- The entries whose gifts are kept, and the next one: MPI 3.1, sections 11.5 and 11.7, in this project's profile of
-- order.
use Rattle.std.specs.Prelude.{◌≡◌, ℕ, ◌<◌, ◌≤◌, false, List, [], ◌∷◌, ◌++◌, length, Option}
use Rattle.std.specs.HashMap.{spare}
use Rattle.std.specs.List.{AllByRecursion}
use Rattle.std.specs.Option.{option_map_or}
use Rattle.rma_types.specs.declared.accesses.Step.{Step}
use Rattle.rma_types.specs.declared.calls.Call.{Call}
use Rattle.rma_types.specs.Actions.{synchronisation_of}
use Rattle.rank_rules.specs.EpochTests.{names_wrong_rank}
use Rattle.board_rules.specs.Entries.{Row, acts, window_of}
use Rattle.kept_rows.specs.Gifts.{Front, Given, rows_given}
use Rattle.kept_rows.specs.KeptCalls.{kept_row}
use Rattle.entry_gains.specs.Kept.{kept_at}
use Rattle.entry_gains.specs.Ledgers.{HasRoom, HasTables}
use Rattle.entry_gains.specs.Slots.{AreFrom, front_at}
use Rattle.entry_gains.specs.declared.gains.Gains.{Gains}
use Rattle.entry_gains.specs.declared.slots.Slot.{Slot}

abbrev pub row_of : ℕ → ℕ → Call → Step → Row
row_of rank number call step = record { rank = rank; number = number; call = call; step = step }

-- the entries with one more, kept without its values
abbrev pub one_more : List Given → Row → Option Front → List Given
one_more entries row gift = entries ++ record { row = kept_row row; gift = gift } ∷ []

-- What is asked of a next entry: its rank is one of the run, so are the ranks that a synchronisation names, and the
-- number is that of its window.
pub record IsNext (ranks : ℕ) (entries : List Given) (row : Row) (window : ℕ) : Type 0 where
  pub rank : row.rank < ranks
  pub is_on : window ≡ window_of (rows_given entries) row
  pub named : option_map_or (names_wrong_rank ranks) (synchronisation_of row.call) false ≡ false

-- What is kept is what the entries gave: their gifts by the slots that they fill, and what their ranks have done.
pub record Keeps {N : Type 0} (front : N → Front) (ranks : ℕ) (entries : List Given) (gains : Gains N) : Type 0 where
  pub size : gains.ranks ≡ ranks
  pub few : ranks ≤ 16
  pub count : gains.count ≡ length entries
  pub tables : HasTables ranks (acts (rows_given entries)) gains.ledger
  pub tokens : (slot : Slot) → front_at front gains.tokens slot ≡ kept_at ranks entries slot
  pub inside : AllByRecursion (λ (row : Row). row.rank < 16) (rows_given entries)

-- all tokens are from the memory of this name
abbrev pub IsSound : {N : Type 0} → (N → List ℕ) → List ℕ → Gains N → Type 0
IsSound origin name gains = (origin gains.root ≡ name) × AreFrom origin name gains.tokens

-- all tokens are from one memory
abbrev pub IsWhole : {N : Type 0} → (N → List ℕ) → Gains N → Type 0
IsWhole origin gains = AreFrom origin (origin gains.root) gains.tokens

-- memory for one entry more
pub record HasGainsRoom {N : Type 0} (gains : Gains N) : Type 0 where
  pub ledger : HasRoom gains.ledger
  pub tokens : 32 ≤ spare gains.tokens
  pub count : gains.count < 4294967295
