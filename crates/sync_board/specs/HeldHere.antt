-- The locks and the attached ranges of one window, where there are any.
use Rattle.std.specs.Prelude.{◌≡◌, ℕ, List, [], Option}
use Rattle.std.specs.Option.{MatchOption}
use Rattle.board_rules.specs.Entries.{Act}
use Rattle.lock_table.specs.HeldLocks.{WindowLocks}
use Rattle.sync_board.specs.KeptLocks.{KeepsLocks, held_on}
use Rattle.sync_board.specs.KeptRanges.{KeepsRanges}
use Rattle.sync_board.specs.Sides.{Done}
use Rattle.sync_board.specs.Tables.{IsAt}
use Rattle.sync_board.specs.declared.regions.Regions.{Regions}

-- the table has the locks that are held on the window after the entries; with no table there is none
abbrev pub KeepsHeld : (ranks window : ℕ) → List Act → Option WindowLocks → Type 0
KeepsHeld ranks window entries table = MatchOption table (held_on ranks window entries ≡ [])
    (KeepsLocks ranks window entries)

-- the ranges are those that each rank has attached
abbrev pub KeepsRegions : (ℕ → Done) → List Regions → Type 0
KeepsRegions done_of regions = (rank : ℕ) → IsAt regions rank ((done_of rank).ranges ≡ [])
    (KeepsRanges (done_of rank).ranges)
