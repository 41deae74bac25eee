-- The bytes of a cell after a change of one of its elements.
use Rattle.std.proofs.Common.{◌≡◌, ℕ, ◌+◌, ◌<◌, ◌≤◌, ◌⊎◌, inl, inr, Bool, true, false, cond, refl, ap, sym, ◌∙◌, arith}
use Rattle.std.proofs.lemmas.Bool.{cases_lt}
use Rattle.rma_types.specs.declared.dtypes.Dtype.{Dtype}
use Rattle.rma_types.specs.declared.dtypes.Dtype.TheVariants.{Int8, Int16, Int32, Uint8, Uint16, Uint32, Byte}
use Rattle.rma_types.specs.Datatypes.{size_of}
use Rattle.call_rules.specs.declared.elements.Change.{Change}
use Rattle.call_rules.specs.Elements.{element_in, with_element, combine, cut, meets, next}
use Rattle.call_rules.specs.Numbers.{patterns_of}
use Rattle.read_laws.proofs.Bytes.{byte_of, DoAgree, element_agrees, outside_stays, inside_agrees}

cut_below : (dtype : Dtype) (n : ℕ) → cut dtype n < patterns_of dtype
cut_below Int8 n = omega arith
cut_below Int16 n = omega arith
cut_below Int32 n = omega arith
cut_below Uint8 n = omega arith
cut_below Uint16 n = omega arith
cut_below Uint32 n = omega arith
cut_below Byte n = omega arith

-- the element of a change lies in the cell
abbrev pub IsInCell : Change → Type 0
IsInCell change = change.first_byte + size_of change.dtype ≤ 4

-- the pattern that a change writes over the old one
abbrev written : Change → ℕ → ℕ
written change old = cut change.dtype (combine change.op change.dtype old (cut change.dtype change.operand))

abbrev next_from : Change → ℕ → ℕ → ℕ
next_from change bits old =
    cond (meets change.compare change.dtype old)
    (with_element bits change.first_byte change.dtype (written change old)) bits

-- the bytes outside the element of a change stay
pub outside : (change : Change) (bits at : ℕ) → IsInCell change → at < 4 →
    (at < change.first_byte) ⊎ (change.first_byte + size_of change.dtype ≤ at) →
    byte_of (next bits change) at ≡ byte_of bits at
outside change bits at i below out =
    by_test (meets change.compare change.dtype (element_in bits change.first_byte change.dtype))
  where
    by_test : (b : Bool) → byte_of
        (cond b (with_element bits change.first_byte change.dtype
        (written change (element_in bits change.first_byte change.dtype))) bits) at ≡ byte_of bits at
    by_test true = outside_stays change.dtype bits change.first_byte
        (written change (element_in bits change.first_byte change.dtype)) at i (cut_below change.dtype _) below out
    by_test false = refl

inside_by : (change : Change) (a b old at : ℕ) → IsInCell change → change.first_byte ≤ at →
    at < change.first_byte + size_of change.dtype → byte_of a at ≡ byte_of b at →
    byte_of (next_from change a old) at ≡ byte_of (next_from change b old) at
inside_by change a b old at i low high same = by_test (meets change.compare change.dtype old)
  where
    by_test : (test : Bool) →
        byte_of (cond test (with_element a change.first_byte change.dtype (written change old)) a) at
        ≡ byte_of (cond test (with_element b change.first_byte change.dtype (written change old)) b) at
    by_test true = inside_agrees change.dtype a b change.first_byte (written change old) at i
        (cut_below change.dtype _) low high
    by_test false = same

-- cells that agree on the element of a change agree on it after the change
inside : (change : Change) (a b at : ℕ) → IsInCell change → DoAgree change.first_byte (size_of change.dtype) a b →
    change.first_byte ≤ at → at < change.first_byte + size_of change.dtype →
    byte_of (next a change) at ≡ byte_of (next b change) at
inside change a b at i agree low high =
    let old = element_agrees change.dtype change.first_byte a b i agree in
    inside_by change a b (element_in a change.first_byte change.dtype) at i low high (agree at low high)
    ∙ ap (λ o. byte_of (next_from change b o) at) old

-- a change of another element leaves what agrees
pub apart_stays : (change : Change) (bits first count : ℕ) → IsInCell change → first + count ≤ 4 →
    (change.first_byte + size_of change.dtype ≤ first) ⊎ (first + count ≤ change.first_byte) →
    DoAgree first count (next bits change) bits
apart_stays change bits first count i within (inl low) at from to = outside change bits at i (omega arith)
    (inr (omega arith))
apart_stays change bits first count i within (inr high) at from to = outside change bits at i (omega arith)
    (inl (omega arith))

-- one change of two cells that agree on its element keeps what agrees
pub change_agrees : (change : Change) (a b first count : ℕ) → IsInCell change → first + count ≤ 4 →
    DoAgree first count a b →
    DoAgree change.first_byte (size_of change.dtype) a b → DoAgree first count (next a change) (next b change)
change_agrees change a b first count i within agree element at from to = elim (cases_lt at change.first_byte) [
  | inl low ↦ outside change a at i (omega arith) (inl low) ∙ agree at from to
      ∙ sym (outside change b at i (omega arith) (inl low))
  | inr above ↦ elim (cases_lt at (change.first_byte + size_of change.dtype)) [
    | inl within_it ↦ inside change a b at i element above within_it
    | inr high ↦ outside change a at i (omega arith) (inr high) ∙ agree at from to
        ∙ sym (outside change b at i (omega arith) (inr high))
  ]
]
