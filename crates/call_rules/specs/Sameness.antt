-- Which datatypes and which operations are the same: MPI 3.1, sections 3.2.2 and 5.9.2.
use Rattle.std.specs.Prelude.{ℕ, Bool, ◌==◌}
use Rattle.rma_types.specs.declared.dtypes.Dtype.{Dtype}
use Rattle.rma_types.specs.declared.dtypes.Dtype.TheVariants.{Int8, Int16, Int32, Uint8, Uint16, Uint32, Byte}
use Rattle.rma_types.specs.declared.ops.Op.{Op}
use Rattle.rma_types.specs.declared.ops.Op.TheVariants.{Replace, NoOp, Max, Min, Sum, Prod, Land, Band, Lor, Bor, Lxor}
use Rattle.rma_types.specs.declared.ops.Op.TheVariants.{Bxor}

-- the place of a datatype in the table of datatypes
abbrev pub dtype_number : Dtype → ℕ
dtype_number Int8 = 0
dtype_number Int16 = 1
dtype_number Int32 = 2
dtype_number Uint8 = 3
dtype_number Uint16 = 4
dtype_number Uint32 = 5
dtype_number Byte = 6

abbrev pub is_same_dtype : Dtype → Dtype → Bool
is_same_dtype a b = dtype_number a == dtype_number b

-- the place of an operation in the table of operations
abbrev pub op_number : Op → ℕ
op_number Replace = 0
op_number NoOp = 1
op_number Max = 2
op_number Min = 3
op_number Sum = 4
op_number Prod = 5
op_number Land = 6
op_number Band = 7
op_number Lor = 8
op_number Bor = 9
op_number Lxor = 10
op_number Bxor = 11

abbrev pub is_same_op : Op → Op → Bool
is_same_op a b = op_number a == op_number b
