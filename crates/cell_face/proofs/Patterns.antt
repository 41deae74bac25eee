-- Elements of a cell, by cases of the datatype and the first byte.
use Rattle.std.proofs.Common.{◌≡◌, ℕ, zero, suc, ◌+◌, ◌-◌, ◌*◌, ◌/◌, ◌%◌, ◌^◌, ◌<◌, ◌≤◌, arith}
use Rattle.rma_types.specs.declared.dtypes.Dtype.{Dtype}
use Rattle.rma_types.specs.declared.dtypes.Dtype.TheVariants.{Int8, Int16, Int32, Uint8, Uint16, Uint32, Byte}
use Rattle.rma_types.specs.Datatypes.{size_of}
use Rattle.call_rules.specs.Elements.{element_in, with_element}
use Rattle.call_rules.specs.Numbers.{patterns_of}

-- what is left of the cell, with the new pattern in its place
pub record IsReplaced (bits weight old pattern whole : ℕ) : Type 0 where
  pub within : old * weight ≤ bits
  pub small : pattern * weight < 2 ^ 32
  pub sum : bits - old * weight + pattern * weight ≡ whole
  pub fits : whole < 2 ^ 32

one_byte : (bits first_byte pattern : ℕ) → bits < 2 ^ 32 → first_byte + 1 ≤ 4 → pattern < 256 →
    IsReplaced bits (256 ^ first_byte) (bits / 256 ^ first_byte % 256) pattern
    (bits % 256 ^ first_byte + pattern * 256 ^ first_byte + bits / (256 ^ first_byte * 256) * (256 ^ first_byte * 256))
one_byte bits zero pattern b i p = record {
  within = omega arith;
  small = omega arith;
  sum = omega arith;
  fits = omega
      arith;
}
one_byte bits (suc zero) pattern b i p = record {
  within = omega arith;
  small = omega arith;
  sum = omega arith;
  fits =
      omega arith;
}
one_byte bits (suc (suc zero)) pattern b i p = record {
  within = omega arith;
  small = omega arith;
  sum = omega arith;
  fits = omega arith;
}
one_byte bits (suc (suc (suc zero))) pattern b i p = record
    { within = omega arith; small = omega arith; sum = omega arith; fits = omega arith }
one_byte bits (suc (suc (suc (suc n)))) pattern b i p = absurd (omega arith)

two_bytes : (bits first_byte pattern : ℕ) → bits < 2 ^ 32 → first_byte + 2 ≤ 4 → pattern < 65536 →
    IsReplaced bits (256 ^ first_byte) (bits / 256 ^ first_byte % 65536) pattern
    (bits % 256 ^ first_byte + pattern * 256 ^ first_byte + bits / (256 ^ first_byte * 65536) *
    (256 ^ first_byte * 65536))
two_bytes bits zero pattern b i p = record {
  within = omega arith;
  small = omega arith;
  sum = omega arith;
  fits = omega
      arith;
}
two_bytes bits (suc zero) pattern b i p = record {
  within = omega arith;
  small = omega arith;
  sum = omega arith;
  fits =
      omega arith;
}
two_bytes bits (suc (suc zero)) pattern b i p = record {
  within = omega arith;
  small = omega arith;
  sum = omega arith;
  fits = omega arith;
}
two_bytes bits (suc (suc (suc n))) pattern b i p = absurd (omega arith)

four_bytes : (bits first_byte pattern : ℕ) → bits < 2 ^ 32 → first_byte + 4 ≤ 4 → pattern < 4294967296 →
    IsReplaced bits (256 ^ first_byte) (bits / 256 ^ first_byte % 4294967296) pattern
    (bits % 256 ^ first_byte + pattern * 256 ^ first_byte + bits / (256 ^ first_byte * 4294967296) *
    (256 ^ first_byte * 4294967296))
four_bytes bits zero pattern b i p = record {
  within = omega arith;
  small = omega arith;
  sum = omega arith;
  fits = omega
      arith;
}
four_bytes bits (suc n) pattern b i p = absurd (omega arith)

-- `with_element` takes the old pattern out and puts the new one in
pub with_element_is : (bits first_byte : ℕ) (dtype : Dtype) (pattern : ℕ) →
    bits < 2 ^ 32 → first_byte + size_of dtype ≤ 4 → pattern < patterns_of dtype →
    IsReplaced bits (256 ^ first_byte) (element_in bits first_byte dtype) pattern
    (with_element bits first_byte dtype pattern)
with_element_is bits first_byte Int8 pattern b i p = one_byte bits first_byte pattern b i p
with_element_is bits first_byte Uint8 pattern b i p = one_byte bits first_byte pattern b i p
with_element_is bits first_byte Byte pattern b i p = one_byte bits first_byte pattern b i p
with_element_is bits first_byte Int16 pattern b i p = two_bytes bits first_byte pattern b i p
with_element_is bits first_byte Uint16 pattern b i p = two_bytes bits first_byte pattern b i p
with_element_is bits first_byte Int32 pattern b i p = four_bytes bits first_byte pattern b i p
with_element_is bits first_byte Uint32 pattern b i p = four_bytes bits first_byte pattern b i p
