-- The elements of an access, and where each lies: MPI 3.1, sections 11.2 and 11.3. A cell is 4 bytes.
use Rattle.std.specs.Prelude.{ℕ, zero, suc, ◌+◌, ◌*◌, ◌/◌, ◌%◌, List, [], ◌∷◌, map, slice_get}
use Rattle.std.specs.Option.{option_map_or}
use Rattle.rma_types.specs.declared.dtypes.Dtype.{Dtype}
use Rattle.rma_types.specs.declared.accesses.Access.{Access}
use Rattle.rma_types.specs.declared.scripts.Layout.{Layout}
use Rattle.rma_types.specs.declared.scripts.MemoryPart.{MemoryPart}
use Rattle.rma_types.specs.Datatypes.{size_of}
use Rattle.call_rules.specs.declared.elements.Piece.{Piece}

-- the numbers from one on, as many as the count says
abbrev pub numbers_from : ℕ → ℕ → List ℕ
numbers_from first zero = []
numbers_from first (suc count) = first ∷ numbers_from (first + 1) count

-- the first cell of a rank's memory
abbrev pub first_cell : Layout → ℕ → ℕ
first_cell layout rank = option_map_or (λ (part : MemoryPart). part.first_cell) (slice_get layout.parts rank) 0

-- where the byte at an address lies in its cell
abbrev pub byte_in_cell : ℕ → ℕ
byte_in_cell address = address % 4

-- where the byte at an address of a rank's memory lies
abbrev pub piece_at : Layout → ℕ → ℕ → Piece
piece_at layout rank address = record { cell = first_cell layout rank + address / 4; first_byte = byte_in_cell address }

-- the address of an element of an access
abbrev pub element_address : Access → Dtype → ℕ → ℕ
element_address access dtype element = access.lo + element * size_of dtype

-- where the elements of an access lie, the first element first
abbrev pub pieces : Layout → Access → Dtype → List Piece
pieces layout access dtype =
    map (λ element. piece_at layout access.target (element_address access dtype element))
    (numbers_from 0 (access.len / size_of dtype))
