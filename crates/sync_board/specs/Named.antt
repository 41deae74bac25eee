-- What is kept of the windows of one name, and of all names. The window of a round and a name has a number of its own.
use Rattle.std.specs.Prelude.{ℕ, ◌<◌, List}
use Rattle.rma_types.specs.declared.scripts.Layout.{Layout}
use Rattle.rank_rules.specs.Windows.{window_number}
use Rattle.board_rules.specs.Entries.{Act}
use Rattle.sync_board.specs.Tables.{IsAt}
use Rattle.sync_board.specs.Windows.{IsUntouched, KeepsWindow}
use Rattle.sync_board.specs.declared.named.NameRecord.{NameRecord}
use Rattle.sync_board.specs.declared.window_record.WindowRecord.{WindowRecord}

-- nothing was done on the windows of the name
abbrev pub IsNameUntouched : ℕ → ℕ → List Act → Type 0
IsNameUntouched ranks name entries = (round : ℕ) → IsUntouched ranks (window_number round name) entries

-- the records are those of the windows of the name, by round
abbrev pub KeepsName : Layout → ℕ → ℕ → List Act → List WindowRecord → Type 0
KeepsName layout ranks name entries rounds = (round : ℕ) →
    IsAt rounds round (IsUntouched ranks (window_number round name) entries)
    (KeepsWindow layout ranks (window_number round name) entries)

-- the records are those of the windows of all 32 names
abbrev pub KeepsWindows : Layout → ℕ → List Act → List NameRecord → Type 0
KeepsWindows layout ranks entries names = (name : ℕ) → IsAt names name
    (name < 32 → IsNameUntouched ranks name entries)
    (λ (one : NameRecord). name < 32 → KeepsName layout ranks name entries one.rounds.items)
