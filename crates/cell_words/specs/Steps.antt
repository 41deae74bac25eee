-- What each step on a cell's word tells.
use Rattle.std.specs.Prelude.{◌≡◌, ◌≢◌, ◌<◌, ◌≤◌, ℕ, ◌+◌, ◌-◌, ◌/◌, ◌%◌, ◌^◌, slice_index}
use Rattle.atomic_table.specs.Table.{Me, Step}
use Rattle.cell_words.specs.declared.views.View.{View}
use Rattle.cell_words.specs.Words.{seen_in}
use Rattle.cell_words.specs.Views.{with_look, with_update}

-- the cell of the word that the step is on
abbrev pub cell_of : Step (Unit {0}) → ℕ
cell_of step = step.word - 1

-- the state that was found is not below the lowest place
abbrev pub NotBelow : ℕ → View → ℕ → Type 0
NotBelow cell view found = slice_index view.lows cell ≤ (seen_in found).place

-- a load: the state was seen
abbrev pub Looked : Step (Unit {0}) → Me (Unit {0}) View → ℕ → Me (Unit {0}) View → Type 0
Looked step before found after =
    (after ≡ (with_look before.0 (cell_of step) (seen_in found), before.1)) × NotBelow (cell_of step) before.0 found

-- a fetch_add: the high half of its operand was added to the bits
abbrev pub Added : Step (Unit {0}) → Me (Unit {0}) View → ℕ → Me (Unit {0}) View → Type 0
Added step before found after =
    let sum = ((seen_in found).bits + step.first / 2 ^ 32) % 2 ^ 32 in
    (after ≡ (with_update before.0 (cell_of step) (seen_in found) sum, before.1))
    × NotBelow (cell_of step) before.0 found

-- a compare_exchange: the high half of the new word was written where the word was the old one; else the cell had moved
-- on, and its state was seen
abbrev pub Attempted : Step (Unit {0}) → Me (Unit {0}) View → ℕ → Me (Unit {0}) View → Type 0
Attempted step before found after =
    (found ≡ step.first →
    (after ≡ (with_update before.0 (cell_of step) (seen_in found) (step.second / 2 ^ 32), before.1))
    × ((seen_in found).place + 1 < 2 ^ 32))
    × (found ≢ step.first → (after ≡ (with_look before.0 (cell_of step) (seen_in found), before.1))
    × ((seen_in step.first).place < (seen_in found).place))
    × NotBelow (cell_of step) before.0 found
