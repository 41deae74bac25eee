-- The parts of a window as its ranks arrive at its creation, and the layout that they lie in: MPI 3.1, section 11.2.
use Rattle.std.specs.Prelude.{◌≡◌, ℕ, ◌+◌, ◌≤◌, ◌&&◌, ◌==◌, List, [], map, Option, None, IfSome, slice_index_or}
use Rattle.std.specs.List.{find}
use Rattle.std.specs.List.Sorted.{IsNonDecreasingBy}
use Rattle.std.specs.Option.{option_map, option_map_or}
use Rattle.rma_types.specs.declared.scripts.CallBase.{CallBase}
use Rattle.rma_types.specs.declared.scripts.Layout.{Layout}
use Rattle.rma_types.specs.declared.scripts.Part.{Part}
use Rattle.call_rules.specs.Pieces.{numbers_from}
use Rattle.rank_rules.specs.Windows.{no_part}
use Rattle.board_rules.specs.Entries.{Act, is_by_on, begins_window}
use Rattle.board_rules.specs.Shapes.{part_brought}
use Rattle.sync_board.specs.Boards.{bytes_at}

-- ---- the bases of the allocates

-- the calls of a rank's bases ascend
abbrev pub IsInOrder : List CallBase → Type 0
IsInOrder bases = IsNonDecreasingBy (λ (one : CallBase). one.call) bases

-- those of each rank do
abbrev pub AreInOrder : List (List CallBase) → Type 0
AreInOrder bases = (rank : ℕ) → IsInOrder (slice_index_or bases rank [])

-- the base for the call of a number, and 0 where there is none
abbrev pub base_for : List CallBase → ℕ → ℕ
base_for bases number = option_map_or (λ (one : CallBase). one.base)
    (find (λ (one : CallBase). one.call == number) bases) 0

-- ---- the parts

-- the entry by which a rank first arrives at the creation of a window
abbrev pub first_arrival : List Act → ℕ → ℕ → Option Act
first_arrival entries window rank = find (λ (act : Act). is_by_on rank window act && begins_window act.row) entries

-- the part that is kept of a rank, and none where the rank has not arrived
abbrev pub part_kept : List (Option Part) → ℕ → Option Part
part_kept parts rank = slice_index_or parts rank None

-- the part of a rank in the window
abbrev pub part_or_none : List (Option Part) → ℕ → Part
part_or_none parts rank = option_map_or (λ part. part) (part_kept parts rank) no_part

-- the parts of so many ranks
abbrev pub parts_or_none : List (Option Part) → ℕ → List Part
parts_or_none parts ranks = map (part_or_none parts) (numbers_from 0 ranks)

-- a part lies in the memory of a rank
abbrev pub IsInside : Layout → ℕ → Part → Type 0
IsInside layout rank part = part.base + part.bytes ≤ bytes_at layout rank

-- what is kept of each rank is the part that its first arrival brought, and lies in the rank's memory
pub record KeepsParts (layout : Layout) (window : ℕ) (entries : List Act) (parts : List (Option Part)) : Type 0 where
  pub brought : (rank : ℕ) → part_kept parts rank ≡ option_map (part_brought layout) (first_arrival entries window rank)
  pub inside : (rank : ℕ) → IfSome (part_kept parts rank) (IsInside layout rank)
