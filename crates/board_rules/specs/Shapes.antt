-- The parts of a window: MPI 3.1, sections 11.2.1, 11.2.2 and 11.2.4. They are what the ranks' arrivals at its creation
-- brought.
use Rattle.std.specs.Prelude.{ℕ, ◌&&◌, ◌==◌, List, map, slice_index_or, []}
use Rattle.std.specs.List.{find}
use Rattle.std.specs.Option.{option_map_or}
use Rattle.rma_types.specs.declared.calls.Flavor.{Flavor}
use Rattle.rma_types.specs.declared.calls.Flavor.TheVariants.{Allocate, Create, Dynamic}
use Rattle.rma_types.specs.declared.scripts.CallBase.{CallBase}
use Rattle.rma_types.specs.declared.scripts.Layout.{Layout}
use Rattle.rma_types.specs.declared.scripts.Part.{Part}
use Rattle.rma_types.specs.declared.actions.Creation.{Creation}
use Rattle.rma_types.specs.Actions.{creation_of}
use Rattle.call_rules.specs.Pieces.{numbers_from}
use Rattle.call_rules.specs.Ranks.{natural}
use Rattle.rank_rules.specs.Windows.{no_part}
use Rattle.board_rules.specs.Entries.{Act, is_by_on, begins_window}

-- the address that the memory of one of a rank's allocates begins at
abbrev pub base_of : Layout → ℕ → ℕ → ℕ
base_of layout rank number = option_map_or (λ (one : CallBase). one.base)
    (find (λ (one : CallBase). one.call == number) (slice_index_or layout.bases rank [])) 0

-- the address at which a creation of a flavor begins: in memory of its own, or in the rank's space
abbrev pub base_made : Layout → ℕ → ℕ → Creation → Flavor → ℕ
base_made layout rank number creation Allocate = base_of layout rank number
base_made layout rank number creation Create = natural creation.base
base_made layout rank number creation Dynamic = natural creation.base

-- the part that a rank brings by the creation of this number
abbrev pub part_made : Layout → ℕ → ℕ → Creation → Part
part_made layout rank number creation = record {
  base = base_made layout rank number creation creation.flavor;
  bytes = natural creation.bytes;
  unit = natural creation.unit;
}

abbrev pub part_brought : Layout → Act → Part
part_brought layout act =
    option_map_or (part_made layout act.row.rank act.row.number) (creation_of act.row.call) no_part

-- the part of a rank in a window: what its arrival at the window's creation brought
abbrev pub part_in : Layout → List Act → ℕ → ℕ → Part
part_in layout entries window rank = option_map_or (part_brought layout)
    (find (λ (act : Act). is_by_on rank window act && begins_window act.row) entries) no_part

-- the parts of a window by its number, one for each rank
abbrev pub parts_of : Layout → ℕ → List Act → ℕ → List Part
parts_of layout ranks entries window = map (part_in layout entries window) (numbers_from 0 ranks)
