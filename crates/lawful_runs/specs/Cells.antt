-- The states of a cell, and the cells of a lawful run: MPI 3.1, section 11.7.1. Each update of a cell has one place
-- among them, and each touch reads the state at its place.
use Rattle.std.specs.Prelude.{ℕ, zero, suc, ◌≡◌, ◌<◌, ◌≤◌, Bool, true, false, ◌==◌, if◌then◌else◌, nat_lt, List, length}
use Rattle.std.specs.Prelude.{map, slice_index, Option, Some, None}
use Rattle.std.specs.List.{find, count_by, AllByRecursion}
use Rattle.std.specs.Option.{option_map_or}
use Rattle.rma_types.specs.declared.scripts.Script.{Script}
use Rattle.rma_record.specs.declared.runs.Run.{Run}
use Rattle.call_rules.specs.declared.elements.Change.{Change}
use Rattle.call_rules.specs.Elements.{next}
use Rattle.call_rules.specs.Layout.{layout, cells_of}
use Rattle.call_rules.specs.Pieces.{numbers_from}
use Rattle.lawful_runs.specs.Accesses.{Touching, touches_of, all_touches, on_cell, updates_in, is_update, EachPair}

abbrev pub has_place : ℕ → Touching → Bool
has_place place touch = touch.place == place

-- the value after the touch's change, if it makes one
abbrev pub bits_after : ℕ → Option Change → ℕ
bits_after bits None = bits
bits_after bits (Some change) = next bits change

-- the value of a cell, at first 0, after its updates with the places below k, in this order
abbrev pub state : List Touching → ℕ → ℕ
state updates zero = 0
state updates (suc k) = option_map_or
    (λ (update : Touching). bits_after (state updates k) update.change) (find (has_place k) updates) (state updates k)

-- one of two touches on one cell stands before the other in a log: an update's place is passed, and a read's not fallen
-- below
abbrev pub KeepsOrder : Touching → Touching → Type 0
KeepsOrder first second = if_update (is_update first)
  where
    if_update : Bool → Type 0
    if_update true = first.place < second.place
    if_update false = first.place ≤ second.place

-- a touch reads the state at its place, which is at most the number of updates
pub record ReadsState (updates : List Touching) (touch : Touching) : Type 0 where
  pub within : touch.place ≤ length updates
  pub reads : touch.bits ≡ state updates touch.place

-- The history of a cell. touches are those of all logs on the cell, and by_rank those of each log.
pub record IsHistory (touches : List Touching) (by_rank : List (List Touching)) (final : ℕ) : Type 0 where
  -- its updates have the places from 0 on, each once
  pub places : (place : ℕ) →
      count_by (has_place place) (updates_in touches) ≡ (if nat_lt place (length (updates_in touches)) then 1 else 0)
  pub states : AllByRecursion (ReadsState (updates_in touches)) touches
  pub last : final ≡ state (updates_in touches) (length (updates_in touches))
  pub order : AllByRecursion (EachPair KeepsOrder) by_rank

-- each cell of the layout has a value and a history, and no other cell is touched
pub record HasLawfulCells (script : Script) (run : Run) : Type 0 where
  pub memory : length run.memory ≡ cells_of (layout script)
  pub inside : AllByRecursion (λ (touch : Touching). touch.cell < cells_of (layout script)) (all_touches script run)
  pub histories : (cell : ℕ) → cell < cells_of (layout script) →
      IsHistory (on_cell cell (all_touches script run))
      (map (λ rank. on_cell cell (touches_of script run rank)) (numbers_from 0 script.ranks))
      (slice_index run.memory cell)
