-- The bytes of a cell, and of a cell with another element.
use Rattle.std.proofs.Common.{◌≡◌, ℕ, zero, suc, ◌+◌, ◌*◌, ◌/◌, ◌%◌, ◌^◌, ◌<◌, ◌≤◌, ◌⊎◌, inl, inr, arith}
use Rattle.rma_types.specs.declared.dtypes.Dtype.{Dtype}
use Rattle.rma_types.specs.declared.dtypes.Dtype.TheVariants.{Int8, Int16, Int32, Uint8, Uint16, Uint32, Byte}
use Rattle.rma_types.specs.Datatypes.{size_of}
use Rattle.call_rules.specs.Elements.{element_in, with_element}
use Rattle.call_rules.specs.Numbers.{patterns_of}

-- a byte of a cell
abbrev pub byte_of : ℕ → ℕ → ℕ
byte_of bits at = bits / 256 ^ at % 256

-- two cells have the same bytes, as many as are said from one on
abbrev pub DoAgree : ℕ → ℕ → ℕ → ℕ → Type 0
DoAgree first count a b = (at : ℕ) → first ≤ at → at < first + count → byte_of a at ≡ byte_of b at

-- ---- an element is its bytes

one_agrees : (first a b : ℕ) → first + 1 ≤ 4 → DoAgree first 1 a b → a / 256 ^ first % 256 ≡ b / 256 ^ first % 256
one_agrees first a b inside agree = agree first (omega arith) (omega arith)

two_agree : (first a b : ℕ) → first + 2 ≤ 4 → DoAgree first 2 a b → a / 256 ^ first % 65536 ≡ b / 256 ^ first % 65536
two_agree zero a b inside agree =
    let one = agree 0 (omega arith) (omega arith) in
    let two = agree 1 (omega arith) (omega arith) in
    omega (arith, one, two)
two_agree (suc zero) a b inside agree =
    let one = agree 1 (omega arith) (omega arith) in
    let two = agree 2 (omega arith) (omega arith) in
    omega (arith, one, two)
two_agree (suc (suc zero)) a b inside agree =
    let one = agree 2 (omega arith) (omega arith) in
    let two = agree 3 (omega arith) (omega arith) in
    omega (arith, one, two)
two_agree (suc (suc (suc n))) a b inside agree = absurd (omega arith)

four_agree : (first a b : ℕ) → first + 4 ≤ 4 → DoAgree first 4 a b →
    a / 256 ^ first % 4294967296 ≡ b / 256 ^ first % 4294967296
four_agree zero a b inside agree =
    let one = agree 0 (omega arith) (omega arith) in
    let two = agree 1 (omega arith) (omega arith) in
    let three = agree 2 (omega arith) (omega arith) in
    let four = agree 3 (omega arith) (omega arith) in
    omega (arith, one, two, three, four)
four_agree (suc n) a b inside agree = absurd (omega arith)

-- ---- the bytes outside a new element

one_outside : (bits first pattern at : ℕ) → first + 1 ≤ 4 → pattern < 256 → at < 4 → (at < first) ⊎ (first + 1 ≤ at) →
    byte_of (bits % 256 ^ first + pattern * 256 ^ first + bits / (256 ^ first * 256) * (256 ^ first * 256)) at
    ≡ byte_of bits at
one_outside bits zero pattern zero i p below out = absurd (omega arith)
one_outside bits zero pattern (suc zero) i p below out = omega arith
one_outside bits zero pattern (suc (suc zero)) i p below out = omega arith
one_outside bits zero pattern (suc (suc (suc zero))) i p below out = omega arith
one_outside bits (suc zero) pattern zero i p below out = omega arith
one_outside bits (suc zero) pattern (suc zero) i p below out = absurd (omega arith)
one_outside bits (suc zero) pattern (suc (suc zero)) i p below out = omega arith
one_outside bits (suc zero) pattern (suc (suc (suc zero))) i p below out = omega arith
one_outside bits (suc (suc zero)) pattern zero i p below out = omega arith
one_outside bits (suc (suc zero)) pattern (suc zero) i p below out = omega arith
one_outside bits (suc (suc zero)) pattern (suc (suc zero)) i p below out = absurd (omega arith)
one_outside bits (suc (suc zero)) pattern (suc (suc (suc zero))) i p below out = omega arith
one_outside bits (suc (suc (suc zero))) pattern zero i p below out = omega arith
one_outside bits (suc (suc (suc zero))) pattern (suc zero) i p below out = omega arith
one_outside bits (suc (suc (suc zero))) pattern (suc (suc zero)) i p below out = omega arith
one_outside bits (suc (suc (suc zero))) pattern (suc (suc (suc zero))) i p below out = absurd (omega arith)
one_outside bits (suc (suc (suc (suc n)))) pattern at i p below out = absurd (omega arith)
one_outside bits first pattern (suc (suc (suc (suc n)))) i p below out = absurd (omega arith)

two_outside : (bits first pattern at : ℕ) → first + 2 ≤ 4 → pattern < 65536 → at < 4 → (at < first) ⊎ (first + 2 ≤ at) →
    byte_of (bits % 256 ^ first + pattern * 256 ^ first + bits / (256 ^ first * 65536) * (256 ^ first * 65536)) at
    ≡ byte_of bits at
two_outside bits zero pattern zero i p below out = absurd (omega arith)
two_outside bits zero pattern (suc zero) i p below out = absurd (omega arith)
two_outside bits zero pattern (suc (suc zero)) i p below out = omega arith
two_outside bits zero pattern (suc (suc (suc zero))) i p below out = omega arith
two_outside bits (suc zero) pattern zero i p below out = omega arith
two_outside bits (suc zero) pattern (suc zero) i p below out = absurd (omega arith)
two_outside bits (suc zero) pattern (suc (suc zero)) i p below out = absurd (omega arith)
two_outside bits (suc zero) pattern (suc (suc (suc zero))) i p below out = omega arith
two_outside bits (suc (suc zero)) pattern zero i p below out = omega arith
two_outside bits (suc (suc zero)) pattern (suc zero) i p below out = omega arith
two_outside bits (suc (suc zero)) pattern (suc (suc zero)) i p below out = absurd (omega arith)
two_outside bits (suc (suc zero)) pattern (suc (suc (suc zero))) i p below out = absurd (omega arith)
two_outside bits (suc (suc (suc n))) pattern at i p below out = absurd (omega arith)
two_outside bits first pattern (suc (suc (suc (suc n)))) i p below out = absurd (omega arith)

-- ---- the bytes of a new element

one_inside : (a b first pattern at : ℕ) → first + 1 ≤ 4 → pattern < 256 → first ≤ at → at < first + 1 →
    byte_of (a % 256 ^ first + pattern * 256 ^ first + a / (256 ^ first * 256) * (256 ^ first * 256)) at ≡
    byte_of (b % 256 ^ first + pattern * 256 ^ first + b / (256 ^ first * 256) * (256 ^ first * 256)) at
one_inside a b zero pattern zero i p low high = omega arith
one_inside a b zero pattern (suc at) i p low high = absurd (omega arith)
one_inside a b (suc zero) pattern zero i p low high = absurd (omega arith)
one_inside a b (suc zero) pattern (suc zero) i p low high = omega arith
one_inside a b (suc zero) pattern (suc (suc at)) i p low high = absurd (omega arith)
one_inside a b (suc (suc zero)) pattern zero i p low high = absurd (omega arith)
one_inside a b (suc (suc zero)) pattern (suc zero) i p low high = absurd (omega arith)
one_inside a b (suc (suc zero)) pattern (suc (suc zero)) i p low high = omega arith
one_inside a b (suc (suc zero)) pattern (suc (suc (suc at))) i p low high = absurd (omega arith)
one_inside a b (suc (suc (suc zero))) pattern zero i p low high = absurd (omega arith)
one_inside a b (suc (suc (suc zero))) pattern (suc zero) i p low high = absurd (omega arith)
one_inside a b (suc (suc (suc zero))) pattern (suc (suc zero)) i p low high = absurd (omega arith)
one_inside a b (suc (suc (suc zero))) pattern (suc (suc (suc zero))) i p low high = omega arith
one_inside a b (suc (suc (suc zero))) pattern (suc (suc (suc (suc at)))) i p low high = absurd (omega arith)
one_inside a b (suc (suc (suc (suc n)))) pattern at i p low high = absurd (omega arith)

two_inside : (a b first pattern at : ℕ) → first + 2 ≤ 4 → pattern < 65536 → first ≤ at → at < first + 2 →
    byte_of (a % 256 ^ first + pattern * 256 ^ first + a / (256 ^ first * 65536) * (256 ^ first * 65536)) at ≡
    byte_of (b % 256 ^ first + pattern * 256 ^ first + b / (256 ^ first * 65536) * (256 ^ first * 65536)) at
two_inside a b zero pattern zero i p low high = omega arith
two_inside a b zero pattern (suc zero) i p low high = omega arith
two_inside a b zero pattern (suc (suc at)) i p low high = absurd (omega arith)
two_inside a b (suc zero) pattern zero i p low high = absurd (omega arith)
two_inside a b (suc zero) pattern (suc zero) i p low high = omega arith
two_inside a b (suc zero) pattern (suc (suc zero)) i p low high = omega arith
two_inside a b (suc zero) pattern (suc (suc (suc at))) i p low high = absurd (omega arith)
two_inside a b (suc (suc zero)) pattern zero i p low high = absurd (omega arith)
two_inside a b (suc (suc zero)) pattern (suc zero) i p low high = absurd (omega arith)
two_inside a b (suc (suc zero)) pattern (suc (suc zero)) i p low high = omega arith
two_inside a b (suc (suc zero)) pattern (suc (suc (suc zero))) i p low high = omega arith
two_inside a b (suc (suc zero)) pattern (suc (suc (suc (suc at)))) i p low high = absurd (omega arith)
two_inside a b (suc (suc (suc n))) pattern at i p low high = absurd (omega arith)

four_inside : (a b first pattern at : ℕ) → first + 4 ≤ 4 → pattern < 4294967296 → first ≤ at → at < first + 4 →
    byte_of (a % 256 ^ first + pattern * 256 ^ first + a / (256 ^ first * 4294967296) * (256 ^ first * 4294967296)) at ≡
    byte_of (b % 256 ^ first + pattern * 256 ^ first + b / (256 ^ first * 4294967296) * (256 ^ first * 4294967296)) at
four_inside a b zero pattern zero i p low high = omega arith
four_inside a b zero pattern (suc zero) i p low high = omega arith
four_inside a b zero pattern (suc (suc zero)) i p low high = omega arith
four_inside a b zero pattern (suc (suc (suc zero))) i p low high = omega arith
four_inside a b zero pattern (suc (suc (suc (suc at)))) i p low high = absurd (omega arith)
four_inside a b (suc n) pattern at i p low high = absurd (omega arith)

-- ---- by datatypes

-- cells that agree on the bytes of an element have the same element
pub element_agrees : (dtype : Dtype) (first a b : ℕ) → first + size_of dtype ≤ 4 → DoAgree first (size_of dtype) a b →
    element_in a first dtype ≡ element_in b first dtype
element_agrees Int8 first a b inside agree = one_agrees first a b inside agree
element_agrees Uint8 first a b inside agree = one_agrees first a b inside agree
element_agrees Byte first a b inside agree = one_agrees first a b inside agree
element_agrees Int16 first a b inside agree = two_agree first a b inside agree
element_agrees Uint16 first a b inside agree = two_agree first a b inside agree
element_agrees Int32 first a b inside agree = four_agree first a b inside agree
element_agrees Uint32 first a b inside agree = four_agree first a b inside agree

-- a new element leaves the other bytes
pub outside_stays : (dtype : Dtype) (bits first pattern at : ℕ) → first + size_of dtype ≤ 4 →
    pattern < patterns_of dtype →
    at < 4 → (at < first) ⊎ (first + size_of dtype ≤ at) →
    byte_of (with_element bits first dtype pattern) at ≡ byte_of bits at
outside_stays Int8 bits first pattern at i p below out = one_outside bits first pattern at i p below out
outside_stays Uint8 bits first pattern at i p below out = one_outside bits first pattern at i p below out
outside_stays Byte bits first pattern at i p below out = one_outside bits first pattern at i p below out
outside_stays Int16 bits first pattern at i p below out = two_outside bits first pattern at i p below out
outside_stays Uint16 bits first pattern at i p below out = two_outside bits first pattern at i p below out
outside_stays Int32 bits first pattern at i p below (inl low) = absurd (omega arith)
outside_stays Int32 bits first pattern at i p below (inr high) = absurd (omega arith)
outside_stays Uint32 bits first pattern at i p below (inl low) = absurd (omega arith)
outside_stays Uint32 bits first pattern at i p below (inr high) = absurd (omega arith)

-- two cells with one new element have the same bytes in it
pub inside_agrees : (dtype : Dtype) (a b first pattern at : ℕ) → first + size_of dtype ≤ 4 →
    pattern < patterns_of dtype →
    first ≤ at → at < first + size_of dtype →
    byte_of (with_element a first dtype pattern) at ≡ byte_of (with_element b first dtype pattern) at
inside_agrees Int8 a b first pattern at i p low high = one_inside a b first pattern at i p low high
inside_agrees Uint8 a b first pattern at i p low high = one_inside a b first pattern at i p low high
inside_agrees Byte a b first pattern at i p low high = one_inside a b first pattern at i p low high
inside_agrees Int16 a b first pattern at i p low high = two_inside a b first pattern at i p low high
inside_agrees Uint16 a b first pattern at i p low high = two_inside a b first pattern at i p low high
inside_agrees Int32 a b first pattern at i p low high = four_inside a b first pattern at i p low high
inside_agrees Uint32 a b first pattern at i p low high = four_inside a b first pattern at i p low high
