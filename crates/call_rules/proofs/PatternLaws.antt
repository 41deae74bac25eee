-- How many patterns a datatype has.
use Rattle.std.proofs.Common.{◌<◌, arith}
use Rattle.rma_types.specs.declared.dtypes.Dtype.{Dtype}
use Rattle.rma_types.specs.declared.dtypes.Dtype.TheVariants.{Int8, Int16, Int32, Uint8, Uint16, Uint32, Byte}
use Rattle.call_rules.specs.Numbers.{patterns_of}

pub some_pattern : (dtype : Dtype) → 0 < patterns_of dtype
some_pattern Int8 = omega arith
some_pattern Int16 = omega arith
some_pattern Int32 = omega arith
some_pattern Uint8 = omega arith
some_pattern Uint16 = omega arith
some_pattern Uint32 = omega arith
some_pattern Byte = omega arith
