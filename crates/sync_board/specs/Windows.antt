-- What is kept of one window, by its entries.
use Rattle.std.specs.Prelude.{◌≡◌, ℕ, ◌+◌, ◌≤◌, None, List, [], ◌∷◌, ◌++◌, reverse, slice_index_or}
use Rattle.std.specs.List.{AllByRecursion}
use Rattle.rma_types.specs.declared.accesses.Step.{Step}
use Rattle.rma_types.specs.declared.scripts.Layout.{Layout}
use Rattle.board_rules.specs.Entries.{Act}
use Rattle.board_rules.specs.Questions.{Question}
use Rattle.rma_types.specs.KeptCalls.{kept_call}
use Rattle.rank_rules.specs.Ranges.{Range}
use Rattle.sync_board.specs.Boards.{bytes_at}
use Rattle.sync_board.specs.KeptLocks.{held_on}
use Rattle.sync_board.specs.KeptParts.{KeepsParts, first_arrival}
use Rattle.sync_board.specs.HeldHere.{KeepsHeld, KeepsRegions}
use Rattle.sync_board.specs.Sides.{AreRanks, Done, done, own}
use Rattle.sync_board.specs.Tables.{HasNoRounds, HasNoSide, KeepsSides, KeepsRounds}
use Rattle.sync_board.specs.declared.window_record.WindowRecord.{WindowRecord}

-- what each rank has done on a window
abbrev pub done_on : List Act → ℕ → ℕ → Done
done_on entries window rank = done (own entries rank window)

-- the groups of the last posts name ranks
abbrev pub PostsToRanks : (ℕ → Done) → Type 0
PostsToRanks done_of = (rank : ℕ) → AreRanks (slice_index_or (reverse (done_of rank).posts) 0 [])

-- the ranges that are attached lie in the memory of their ranks
abbrev pub AttachedInside : Layout → (ℕ → Done) → Type 0
AttachedInside layout done_of = (rank : ℕ) →
    AllByRecursion (λ (range : Range). range.base + range.bytes ≤ bytes_at layout rank) (done_of rank).ranges

-- What is kept of a window is what its entries have done.
pub record KeepsWindow (layout : Layout) (ranks window : ℕ) (entries : List Act) (kept : WindowRecord) : Type 0 where
  pub sides : KeepsSides (done_on entries window) kept.side_table.sides.items
  pub members : PostsToRanks (done_on entries window)
  pub rounds : KeepsRounds (done_on entries window) kept.round_table.rounds.items
  pub held : KeepsHeld ranks window entries kept.lock_state.table
  pub regions : KeepsRegions (done_on entries window) kept.region_table.regions.items
  pub inside : AttachedInside layout (done_on entries window)
  pub brought : KeepsParts layout window entries kept.parts.parts.items

-- A window on which nothing was done.
pub record IsUntouched (ranks window : ℕ) (entries : List Act) : Type 0 where
  pub sides : (rank : ℕ) → HasNoSide (done_on entries window rank)
  pub rounds : (rank : ℕ) → HasNoRounds (done_on entries window rank)
  pub held : held_on ranks window entries ≡ []
  pub ranges : (rank : ℕ) → (done_on entries window rank).ranges ≡ []
  pub arrivals : (rank : ℕ) → first_arrival entries window rank ≡ None

-- the entry that a question becomes, as it is kept
abbrev pub entered : Question → ℕ → Step → Act
entered q number step = record {
  row = record { rank = q.rank; number = number; call = kept_call q.call; step = step };
  window = q.window;
}

-- the entries with the one that a question becomes
abbrev pub entries_after : Question → ℕ → Step → List Act
entries_after q number step = q.entries ++ entered q number step ∷ []

-- what is kept of the window of a question
abbrev pub KeepsBefore : Layout → Question → WindowRecord → Type 0
KeepsBefore layout q kept = KeepsWindow layout q.ranks q.window q.entries kept

-- what is kept of it with one entry more
abbrev pub KeepsAfter : Layout → Question → ℕ → Step → WindowRecord → Type 0
KeepsAfter layout q number step kept = KeepsWindow layout q.ranks q.window (entries_after q number step) kept
