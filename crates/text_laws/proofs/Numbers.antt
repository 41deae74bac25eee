-- Numbers that are printed are read as they were.
use Rattle.std.proofs.Common.{◌≡◌, ℕ, suc, ◌+◌, ◌%◌, ◌^◌, ◌<◌, ◌≤◌, Bool, true, false, cond, eqb, List, [], ◌∷◌, length}
use Rattle.std.proofs.Common.{Ok, Result, ℤ, pos, negsuc, refl, ap, ◌∙◌, arith}
use Rattle.std.specs.Prelude.{int_le}
use Rattle.std.specs.Char.{is_ascii_digit}
use Rattle.std.specs.Fmt.{decimal}
use Rattle.std.specs.List.{AllByRecursion, list_all}
use Rattle.std.specs.Str.Parse.{digits_value}
use Rattle.std.proofs.lemmas.Bool.{le-leb}
use Rattle.std.proofs.lemmas.Fmt.{decimal_by_steps, decimal_is_IsNumeral, length-decimal-le, decimal_nonempty}
use Rattle.std.proofs.lemmas.Grind.{common_steps}
use Rattle.list_laws.proofs.Each.{each_append}
use Rattle.call_rules.specs.Ranks.{natural}
use Rattle.call_rules.specs.Text.{number, integer}
use Rattle.call_rules.specs.WellFormed.{IsUpTo}
use Rattle.script_language.specs.Answers.{◌>>=◌}
use Rattle.script_language.specs.Integers.{is_digits, natural_of, integer_of, integer_within, integer_up_to, lowest}
use Rattle.script_language.specs.Lines.{has_bytes}
use Rattle.script_language.specs.Tokens.{natural_within, begins_number}
use Rattle.text_laws.proofs.Lines.{IsPlain, is_plain_byte}

-- decimal digits
abbrev pub AreDigits : List ℕ → Type 0
AreDigits ds = AllByRecursion (λ b. (48 ≤ b) × (b ≤ 57)) ds

decimal_digits : (n : ℕ) → n < 2 ^ 64 → AreDigits (decimal n)
decimal_digits n h =
    decimal_by_steps (λ k ds. AreDigits ds) (λ k low. ((omega arith, omega arith), tt))
    (λ k ds high front. each_append (λ b. (48 ≤ b) × (b ≤ 57)) ds ((48 + k % 10) ∷ []) front
    ((omega arith, omega arith), tt)) n h

digits_test : (ds : List ℕ) → AreDigits ds → list_all is_ascii_digit ds ≡ true
digits_test [] all = refl
digits_test (b ∷ bs) all = rw (le-leb 48 b all.0.0, le-leb b 57 all.0.1) (digits_test bs all.1)

digits_plain : (ds : List ℕ) → AreDigits ds → list_all is_plain_byte ds ≡ true
digits_plain [] all = refl
digits_plain (b ∷ bs) all =
    let low : 45 ≤ b = omega arith in
    let high : b ≤ 122 = omega arith in
    rw (le-leb 45 b low, le-leb b 122 high) (digits_plain bs all.1)

some_bytes : (ds : List ℕ) → 0 < length ds → has_bytes ds ≡ true
some_bytes [] some = absurd (omega arith)
some_bytes (b ∷ bs) some = refl

pub number_plain : (n : ℕ) → n < 2 ^ 64 → IsPlain (number n)
number_plain n h = record {
  some = some_bytes (decimal n) (decimal_nonempty n h);
  bytes = digits_plain (decimal n)
      (decimal_digits n h);
}

natural_back : (n : ℕ) → n < 2 ^ 64 → natural_of (decimal n) ≡ Ok n
natural_back n h =
    let some : 1 ≤ length (decimal n) = (let s = decimal_nonempty n h in omega arith) in
    let few : length (decimal n) ≤ 20 = length-decimal-le 20 n (omega arith) (omega arith) h in
    let test : is_digits (decimal n) ≡ true = rw
    (le-leb 1 (length (decimal n)) some, le-leb (length (decimal n)) 20 few)
    (digits_test (decimal n) (decimal_digits n h)) in
    let value : digits_value 10 (decimal n) ≡ n = (decimal_is_IsNumeral n h).1 in
    ap (λ (b : Bool). cond b (Ok (digits_value 10 (decimal n))) (natural_of [])) test ∙ ap (λ (m : ℕ). Ok m) value

unsigned : (ds : List ℕ) → 0 < length ds → AreDigits ds → integer_of ds ≡ (natural_of ds >>= λ (n : ℕ). Ok (pos n))
unsigned [] some all = absurd (omega arith)
unsigned (b ∷ bs) some all = let other : eqb b 45 ≡ false = grind (arith, common_steps) in rw other refl

-- an integer that the digits of the definition can write
abbrev pub IsShort : ℤ → Type 0
IsShort (pos n) = n < 2 ^ 63
IsShort (negsuc n) = n < 2 ^ 63

integer_back : (z : ℤ) → IsShort z → integer_of (integer z) ≡ Ok z
integer_back (pos n) h =
    unsigned (decimal n) (decimal_nonempty n (omega arith)) (decimal_digits n (omega arith))
    ∙ ap (λ (r : Result ℕ _). r >>= λ (m : ℕ). Ok (pos m)) (natural_back n (omega arith))
integer_back (negsuc n) h = rw (natural_back (suc n) (omega arith)) refl

pub integer_plain : (z : ℤ) → IsShort z → IsPlain (integer z)
integer_plain (pos n) h = number_plain n (omega arith)
integer_plain (negsuc n) h = record { some = refl; bytes = (number_plain (suc n) (omega arith)).bytes }

begins_digits : (ds : List ℕ) → 0 < length ds → AreDigits ds → begins_number ds ≡ true
begins_digits [] some all = absurd (omega arith)
begins_digits (b ∷ bs) some all = rw (le-leb 48 b all.0.0, le-leb b 57 all.0.1) refl

pub integer_begins : (z : ℤ) → IsShort z → begins_number (integer z) ≡ true
integer_begins (pos n) h = begins_digits (decimal n) (decimal_nonempty n (omega arith)) (decimal_digits n (omega arith))
integer_begins (negsuc n) h = refl

pub within_back : (low high z : ℤ) → IsShort z → int_le low z ≡ true → int_le z high ≡ true →
    integer_within low high (integer z) ≡ Ok z
within_back low high z short least most = rw (integer_back z short, least, most) refl

pub short_up_to : (high : ℕ) (z : ℤ) → high < 2 ^ 63 → IsUpTo high z → IsShort z
short_up_to high (pos n) few h = omega arith
short_up_to high (negsuc n) few h = omega arith

least_holds : (high : ℕ) (z : ℤ) → IsUpTo high z → int_le lowest z ≡ true
least_holds high (pos n) h = refl
least_holds high (negsuc n) h = le-leb n 2147483647 (omega arith)

most_holds : (high : ℕ) (z : ℤ) → IsUpTo high z → int_le z (pos high) ≡ true
most_holds high (pos n) h = le-leb n high h
most_holds high (negsuc n) h = refl

pub up_to_back : (high : ℕ) (z : ℤ) → high < 2 ^ 63 → IsUpTo high z → integer_up_to high (integer z) ≡ Ok z
up_to_back high z few h = within_back lowest (pos high) z (short_up_to high z few h) (least_holds high z h)
    (most_holds high z h)

pub natural_within_back : (least most n : ℕ) → most < 2 ^ 63 → least ≤ n → n ≤ most → natural_within least most
    (number n) ≡ Ok n
natural_within_back least most n few low high =
    ap (λ (r : Result ℤ _). r >>= λ (z : ℤ). Ok (natural z))
    (within_back (pos least) (pos most) (pos n) (omega arith) (le-leb least n low) (le-leb n most high))
