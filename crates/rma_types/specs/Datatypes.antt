-- Datatypes and the operations that each allows: MPI 3.1, sections 3.2.2, 5.9.2 and 11.3.4.
use Rattle.std.specs.Prelude.{ℕ, Bool, true, false}
use Rattle.rma_types.specs.declared.dtypes.Dtype.{Dtype}
use Rattle.rma_types.specs.declared.dtypes.Dtype.TheVariants.{Int8, Int16, Int32, Uint8, Uint16, Uint32, Byte}
use Rattle.rma_types.specs.declared.ops.Op.{Op}
use Rattle.rma_types.specs.declared.ops.Op.TheVariants.{Replace, NoOp, Max, Min, Sum, Prod, Land, Band, Lor, Bor, Lxor}
use Rattle.rma_types.specs.declared.ops.Op.TheVariants.{Bxor}

-- the bytes of one element
abbrev pub size_of : Dtype → ℕ
size_of Int8 = 1
size_of Int16 = 2
size_of Int32 = 4
size_of Uint8 = 1
size_of Uint16 = 2
size_of Uint32 = 4
size_of Byte = 1

-- the datatype is a number, and not plain bytes
abbrev pub is_number : Dtype → Bool
is_number Int8 = true
is_number Int16 = true
is_number Int32 = true
is_number Uint8 = true
is_number Uint16 = true
is_number Uint32 = true
is_number Byte = false

-- the operation is allowed on the datatype; reading: the call fetches what was there before
abbrev pub is_allowed : Op → Dtype → Bool → Bool
is_allowed Replace dtype reading = true
is_allowed NoOp dtype reading = reading
is_allowed Max dtype reading = is_number dtype
is_allowed Min dtype reading = is_number dtype
is_allowed Sum dtype reading = is_number dtype
is_allowed Prod dtype reading = is_number dtype
is_allowed Land dtype reading = is_number dtype
is_allowed Band dtype reading = true
is_allowed Lor dtype reading = is_number dtype
is_allowed Bor dtype reading = true
is_allowed Lxor dtype reading = is_number dtype
is_allowed Bxor dtype reading = true
