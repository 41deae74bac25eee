-- Numbers and their bit patterns: MPI 3.1, section 3.2.2. Signed numbers are two's complement.
use Rattle.std.specs.Prelude.{ℕ, ◌-◌, ◌*◌, ◌%◌, ◌^◌, ℤ, pos, negsuc, nat_lt, if◌then◌else◌}
use Rattle.rma_types.specs.declared.dtypes.Dtype.{Dtype}
use Rattle.rma_types.specs.declared.dtypes.Dtype.TheVariants.{Int8, Int16, Int32, Uint8, Uint16, Uint32, Byte}
use Rattle.rma_types.specs.Datatypes.{size_of}

-- a pattern below 2 * half: below half it is itself, and else it is 2 * half less
abbrev pub signed_number : ℕ → ℕ → ℤ
signed_number half pattern = if nat_lt pattern half then pos pattern else negsuc (2 * half - 1 - pattern)

-- the number that a bit pattern stands for
abbrev pub number_of : Dtype → ℕ → ℤ
number_of Int8 pattern = signed_number 128 pattern
number_of Int16 pattern = signed_number 32768 pattern
number_of Int32 pattern = signed_number 2147483648 pattern
number_of Uint8 pattern = pos pattern
number_of Uint16 pattern = pos pattern
number_of Uint32 pattern = pos pattern
number_of Byte pattern = pos pattern

-- how many bit patterns an element has
abbrev pub patterns_of : Dtype → ℕ
patterns_of dtype = 256 ^ size_of dtype

-- the bit pattern of the number of the datatype's range that is congruent to z
abbrev pub pattern_of : Dtype → ℤ → ℕ
pattern_of dtype (pos n) = n % patterns_of dtype
pattern_of dtype (negsuc n) = patterns_of dtype - 1 - n % patterns_of dtype
