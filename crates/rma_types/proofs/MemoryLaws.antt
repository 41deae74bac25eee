-- The parts of the memory of a rank.
use Rattle.std.proofs.Common.{List, ℕ}
use Rattle.std.specs.Option.{option_map_or}
use Rattle.std.specs.Prelude.{slice_get}
use Rattle.rma_types.specs.declared.scripts.MemoryPart.{MemoryPart}

-- the memory at a place among parts, and where it begins
abbrev pub bytes_in : List MemoryPart → ℕ → ℕ
bytes_in parts rank = option_map_or (λ (part : MemoryPart). part.bytes) (slice_get parts rank) 0

abbrev pub first_in : List MemoryPart → ℕ → ℕ
first_in parts rank = option_map_or (λ (part : MemoryPart). part.first_cell) (slice_get parts rank) 0
