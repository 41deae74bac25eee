-- Names and bit patterns that are printed are read as they were.
use Rattle.std.proofs.Common.{◌≡◌, ℕ, zero, suc, ◌+◌, ◌-◌, ◌*◌, ◌%◌, ◌<◌, ◌≤◌, true, false, cond, ltb, eqb, List, []}
use Rattle.std.proofs.Common.{◌∷◌, Some, Ok, Result, ℤ, pos, negsuc, refl, ap, ◌∙◌, arith, ◌⊎◌, inl, inr}
use Rattle.std.specs.Prelude.{find, int_le}
use Rattle.std.specs.List.{range_with_len}
use Rattle.std.specs.Str.{bytes_eq}
use Rattle.std.proofs.lemmas.Bool.{le-leb, eqb-true, cases_lt}
use Rattle.std.proofs.lemmas.Fmt.{decimal_injective}
use Rattle.std.proofs.lemmas.Grind.{common_steps}
use Rattle.list_laws.proofs.Truths.{both_true}
use Rattle.rma_types.specs.declared.dtypes.Dtype.{Dtype}
use Rattle.rma_types.specs.declared.dtypes.Dtype.TheVariants.{Int8, Int16, Int32, Uint8, Uint16, Uint32, Byte}
use Rattle.call_rules.specs.Numbers.{signed_number, number_of, pattern_of, patterns_of}
use Rattle.script_language.specs.declared.fields.Fields.{Fields}
use Rattle.script_language.specs.Answers.{◌>>=◌}
use Rattle.script_language.specs.Integers.{integer_within, least_of, greatest_of}
use Rattle.script_language.specs.Spelling.{pattern_text}
use Rattle.script_language.specs.Tokens.{pattern_read}
use Rattle.script_language.specs.Words.{window_text, request_text, window_named, request_named}
use Rattle.text_laws.proofs.Lines.{IsPlain}
use Rattle.text_laws.proofs.Numbers.{IsShort, within_back, integer_plain, number_plain}

same_number : (n : ℕ) → eqb n n ≡ true
same_number n = grind (arith, common_steps)

same_bytes : (xs : List ℕ) → bytes_eq xs xs ≡ true
same_bytes [] = refl
same_bytes (x ∷ xs) = rw (same_number x) (same_bytes xs)

equal_bytes : (xs ys : List ℕ) → bytes_eq xs ys ≡ true → xs ≡ ys
equal_bytes [] [] h = refl
equal_bytes [] (y ∷ ys) h = absurd cc
equal_bytes (x ∷ xs) [] h = absurd cc
equal_bytes (x ∷ xs) (y ∷ ys) h =
    let t = both_true (eqb x y) (bytes_eq xs ys) h in
    let first = eqb-true x y t.0 in
    let others = equal_bytes xs ys t.1 in
    cc

-- the first name that is spelled as this one is this one
name_found : (spelling : ℕ → List ℕ) (from many n : ℕ) → ((m : ℕ) → m < from + many → spelling m ≡ spelling n → m ≡ n) →
    from ≤ n → n < from + many → find (λ x. bytes_eq (spelling x) (spelling n)) (range_with_len from many) ≡ Some n
name_found spelling from zero n apart low high = absurd (omega arith)
name_found spelling from (suc many) n apart low high =
    elim (cases_lt from n) [
      | inl before ↦
          (elim (bytes_eq (spelling from) (spelling n)) as (λ b. bytes_eq (spelling from) (spelling n) ≡ b →
          cond b (Some from) (find (λ x. bytes_eq (spelling x) (spelling n)) (range_with_len (from + 1) many)) ≡
          Some n) [
            | true ↦ λ e. absurd (let same : from ≡ n = apart from (omega arith)
                (equal_bytes (spelling from) (spelling n) e) in omega arith)
            | false ↦ λ e. name_found spelling (from + 1) many n (λ m below. apart m (omega arith)) (omega arith)
                (omega arith)
          ] refl)
      | inr past ↦ let same : from ≡ n = omega arith in rw (same, same_bytes (spelling n)) refl
    ]

window_apart : (m n : ℕ) → m < 32 → n < 32 → window_text m ≡ window_text n → m ≡ n
window_apart m n few h same = decimal_injective m n (omega arith) (omega arith) cc

request_apart : (m n : ℕ) → m < 64 → n < 64 → request_text m ≡ request_text n → m ≡ n
request_apart m n few h same = decimal_injective m n (omega arith) (omega arith) cc

pub window_back : (win : ℕ) → win < 32 → window_named (window_text win) ≡ Some win
window_back win h = name_found window_text 0 32 win (λ m below. window_apart m win (omega arith) h) (omega arith)
    (omega arith)

pub request_back : (req : ℕ) → req < 64 → request_named (request_text req) ≡ Some req
request_back req h = name_found request_text 0 64 req (λ m below. request_apart m req (omega arith) h) (omega arith)
    (omega arith)

pub window_plain : (win : ℕ) → win < 32 → IsPlain (window_text win)
window_plain win h = record { some = refl; bytes = (number_plain win (omega arith)).bytes }

pub request_plain : (req : ℕ) → req < 64 → IsPlain (request_text req)
request_plain req h = record { some = refl; bytes = (number_plain req (omega arith)).bytes }

-- ---- bit patterns

-- a number of a datatype, whose pattern is this one
record IsElement (dtype : Dtype) (pattern : ℕ) : Type 0 where
  short : IsShort (number_of dtype pattern)
  least : int_le (least_of dtype) (number_of dtype pattern) ≡ true
  most : int_le (number_of dtype pattern) (greatest_of dtype) ≡ true
  back : pattern_of dtype (number_of dtype pattern) ≡ pattern

small_rest : (n k : ℕ) → n < k → n % k ≡ n
small_rest n k h = grind (arith, common_steps)

signed_case : (half pattern : ℕ) → ((pattern < half) × (signed_number half pattern ≡ pos pattern))
    ⊎ ((half ≤ pattern) × (signed_number half pattern ≡ negsuc (2 * half - 1 - pattern)))
signed_case half pattern =
    elim (cases_lt pattern half) [
      | inl below ↦ let test : ltb pattern half ≡ true = grind (arith, common_steps) in inl (below, rw test refl)
      | inr past ↦ let test : ltb pattern half ≡ false = grind (arith, common_steps) in inr (past, rw test refl)
    ]

signed_element : (dtype : Dtype) (half pattern : ℕ) → (k : ℕ) → half ≡ suc k → half ≤ 2147483648 →
    patterns_of dtype ≡ 2 * half → number_of dtype pattern ≡ signed_number half pattern → least_of dtype ≡ negsuc k →
    greatest_of dtype ≡ pos k → pattern < 2 * half → IsElement dtype pattern
signed_element dtype half pattern k is few many says low high within =
    elim (signed_case half pattern) [
      | inl small ↦
          let z : number_of dtype pattern ≡ pos pattern = says ∙ small.1 in
          record {
            short = rw z (omega arith);
            least = rw (z, low) refl;
            most = rw (z, high) (le-leb pattern k (omega arith));
            back = rw (z, many) (small_rest pattern (2 * half) within);
          }
      | inr large ↦
          let z : number_of dtype pattern ≡ negsuc (2 * half - 1 - pattern) = says ∙ large.1 in
          let below : 2 * half - 1 - pattern < 2 * half = omega arith in
          record {
            short = rw z (omega arith);
            least = rw (z, low) (le-leb (2 * half - 1 - pattern) k (omega arith));
            most = rw (z, high) refl;
            back = rw (z, many, small_rest (2 * half - 1 - pattern) (2 * half) below) (omega arith);
          }
    ]

unsigned_element : (dtype : Dtype) (most pattern : ℕ) → most < 4294967296 → patterns_of dtype ≡ suc most →
    number_of dtype pattern ≡ pos pattern → least_of dtype ≡ pos 0 → greatest_of dtype ≡ pos most → pattern < suc most →
    IsElement dtype pattern
unsigned_element dtype most pattern few many z low high within =
    record {
      short = rw z (omega arith);
      least = rw (z, low) (le-leb 0 pattern (omega arith));
      most = rw (z, high) (le-leb pattern most (omega arith));
      back = rw (z, many) (small_rest pattern (suc most) within);
    }

element : (dtype : Dtype) (pattern : ℕ) → pattern < patterns_of dtype → IsElement dtype pattern
element Int8 pattern h = signed_element Int8 128 pattern 127 refl (omega arith) refl refl refl refl h
element Int16 pattern h = signed_element Int16 32768 pattern 32767 refl (omega arith) refl refl refl refl h
element Int32 pattern h = signed_element Int32 2147483648 pattern 2147483647 refl (omega arith) refl refl refl refl h
element Uint8 pattern h = unsigned_element Uint8 255 pattern (omega arith) refl refl refl refl h
element Uint16 pattern h = unsigned_element Uint16 65535 pattern (omega arith) refl refl refl refl h
element Uint32 pattern h = unsigned_element Uint32 4294967295 pattern (omega arith) refl refl refl refl h
element Byte pattern h = unsigned_element Byte 255 pattern (omega arith) refl refl refl refl h

pub pattern_plain : (dtype : Dtype) (pattern : ℕ) → pattern < patterns_of dtype → IsPlain (pattern_text dtype pattern)
pattern_plain dtype pattern h = integer_plain (number_of dtype pattern) (element dtype pattern h).short

pub pattern_back : (fields : Fields) (dtype : Dtype) (pattern : ℕ) → fields.dtype ≡ dtype →
    pattern < patterns_of dtype → pattern_read fields (pattern_text dtype pattern) ≡ Ok pattern
pattern_back fields dtype pattern is h =
    let one = element dtype pattern h in
    ap (λ (d : Dtype). integer_within (least_of d) (greatest_of d) (pattern_text dtype pattern) >>= λ (z : ℤ). Ok
    (pattern_of d z)) is
    ∙ ap (λ (r : Result ℤ _). r >>= λ (z : ℤ). Ok (pattern_of dtype z))
    (within_back (least_of dtype) (greatest_of dtype) (number_of dtype pattern) one.short one.least one.most)
    ∙ ap (λ (n : ℕ). Ok n) one.back
