-- The operation on an element of a cell: MPI 3.1, sections 5.9.2, 11.3.1 and 11.3.4. A cell is 4 bytes, little-endian.
use Rattle.std.specs.Prelude.{◌≡◌, ◌<◌, ◌≤◌, ℕ, ◌+◌, ◌*◌, ◌/◌, ◌%◌, ◌^◌, Bool, true, not, ◌&&◌, ◌||◌, ◌==◌}
use Rattle.std.specs.Prelude.{if◌then◌else◌, ◌+ℤ◌, ◌*ℤ◌, int_lt, bit_and, bit_or, bit_xor, Option, Some, None, IfSome}
use Rattle.rma_types.specs.declared.dtypes.Dtype.{Dtype}
use Rattle.rma_types.specs.Datatypes.{size_of}
use Rattle.rma_types.specs.declared.ops.Op.{Op}
use Rattle.rma_types.specs.declared.ops.Op.TheVariants.{Replace, NoOp, Max, Min, Sum, Prod, Land, Band, Lor, Bor, Lxor}
use Rattle.rma_types.specs.declared.ops.Op.TheVariants.{Bxor}
use Rattle.call_rules.specs.declared.elements.Change.{Change}
use Rattle.call_rules.specs.Numbers.{patterns_of, number_of, pattern_of}

-- the bit pattern of the element that begins at a byte of the cell
abbrev pub element_in : ℕ → ℕ → Dtype → ℕ
element_in bits first_byte dtype = bits / 256 ^ first_byte % patterns_of dtype

-- the cell with another pattern in that element; all other bytes stay
abbrev pub with_element : ℕ → ℕ → Dtype → ℕ → ℕ
with_element bits first_byte dtype pattern =
    let low = 256 ^ first_byte in
    let high = low * patterns_of dtype in
    bits % low + pattern * low + bits / high * high

-- 1 where the test holds, else 0
abbrev pub truth : Bool → ℕ
truth holds = if holds then 1 else 0

abbrev pub is_nonzero : ℕ → Bool
is_nonzero n = not (n == 0)

-- the new bit pattern of an element, from its old one and the operand's
abbrev pub combine : Op → Dtype → ℕ → ℕ → ℕ
combine Replace dtype old operand = operand
combine NoOp dtype old operand = old
combine Max dtype old operand = if int_lt (number_of dtype old) (number_of dtype operand) then operand else old
combine Min dtype old operand = if int_lt (number_of dtype operand) (number_of dtype old) then operand else old
combine Sum dtype old operand = pattern_of dtype (number_of dtype old +ℤ number_of dtype operand)
combine Prod dtype old operand = pattern_of dtype (number_of dtype old *ℤ number_of dtype operand)
combine Land dtype old operand = truth (is_nonzero old && is_nonzero operand)
combine Band dtype old operand = bit_and old operand
combine Lor dtype old operand = truth (is_nonzero old || is_nonzero operand)
combine Bor dtype old operand = bit_or old operand
combine Lxor dtype old operand =
    truth ((is_nonzero old && not (is_nonzero operand)) || (not (is_nonzero old) && is_nonzero operand))
combine Bxor dtype old operand = bit_xor old operand

-- a number as a bit pattern of the datatype: what is above the pattern's bits is cut off
abbrev pub cut : Dtype → ℕ → ℕ
cut dtype n = n % patterns_of dtype

-- the element is the pattern that it is compared with, where there is one
abbrev pub meets : Option ℕ → Dtype → ℕ → Bool
meets None dtype old = true
meets (Some compare) dtype old = old == cut dtype compare

-- the cell after the change, which leaves all bytes outside the element as they were
abbrev pub next : ℕ → Change → ℕ
next bits change =
    let old = element_in bits change.first_byte change.dtype in
    if meets change.compare change.dtype old
    then with_element bits change.first_byte change.dtype
    (cut change.dtype (combine change.op change.dtype old (cut change.dtype change.operand)))
    else bits

-- the element stands in the cell at a multiple of its size, and the operand and what it is compared with are its
-- patterns
pub record Fits (change : Change) : Type 0 where
  pub aligned : change.first_byte % size_of change.dtype ≡ 0
  pub inside : change.first_byte + size_of change.dtype ≤ 4
  pub operand : change.operand < patterns_of change.dtype
  pub compared : IfSome change.compare (λ compare. compare < patterns_of change.dtype)
