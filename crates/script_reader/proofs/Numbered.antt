-- The one number that a name can have.
use Rattle.std.proofs.Common.{◌≡◌, ℕ, zero, suc, ◌+◌, ◌<◌, ◌≤◌, inl, inr, Bool, true, false, cond, List, [], ◌∷◌, drop}
use Rattle.std.proofs.Common.{◌-◌, ◌*◌, ◌/◌, ◌%◌, ◌++◌, length, min, Some, None, refl, ap, sym, subst, ◌∙◌, arith}
use Rattle.std.specs.Prelude.{slice_index}
use Rattle.std.specs.Fmt.{decimal}
use Rattle.std.specs.List.{find, range_with_len}
use Rattle.std.specs.Str.{bytes_eq}
use Rattle.std.proofs.lemmas.Bool.{cases_lt}
use Rattle.std.proofs.lemmas.Fmt.{decimal_digit, decimal_step}
use Rattle.std.proofs.lemmas.Slice.Eq.{bytes_eq-Decides}

found_from : (p : ℕ → Bool) (a n c : ℕ) → a ≤ c → c < a + n → p c ≡ true →
    ((k : ℕ) → k < a + n → p k ≡ true → k ≡ c) → find p (range_with_len a n) ≡ Some c
found_from p a zero c low high passes only = absurd (omega arith)
found_from p a (suc n) c low high passes only =
    elim (p a) as (λ b. p a ≡ b → cond b (Some a) (find p (range_with_len (a + 1) n)) ≡ Some c) [
      | true ↦ λ e. ap Some (only a (omega arith) e)
      | false ↦ λ e. elim (cases_lt a c) [
        | inl below ↦ found_from p (a + 1) n c (omega arith) (omega arith) passes
            (λ k within here. only k (omega (arith, within)) here)
        | inr past ↦ let same : a ≡ c = omega arith in cc
      ]
    ] refl

none_from : (p : ℕ → Bool) (a n : ℕ) → ((k : ℕ) → k < a + n → p k ≡ true → ⊥) →
    find p (range_with_len a n) ≡ None
none_from p a zero never = refl
none_from p a (suc n) never =
    elim (p a) as (λ b. p a ≡ b → cond b (Some a) (find p (range_with_len (a + 1) n)) ≡ None) [
      | true ↦ λ e. absurd (never a (omega arith) e)
      | false ↦ λ e. none_from p (a + 1) n (λ k within here. never k (omega (arith, within)) here)
    ] refl

-- the number passes, and no other can
pub only_one : (p : ℕ → Bool) (n c : ℕ) → c < n → p c ≡ true → ((k : ℕ) → k < n → p k ≡ true → k ≡ c) →
    find p (range_with_len 0 n) ≡ Some c
only_one p n c within passes only =
    found_from p 0 n c (omega arith) (omega arith) passes (λ k below here. only k (omega (arith, below)) here)

-- no other number can pass, and this one is past the limit
pub none_past : (p : ℕ → Bool) (n c : ℕ) → n ≤ c → ((k : ℕ) → k < n → p k ≡ true → k ≡ c) →
    find p (range_with_len 0 n) ≡ None
none_past p n c past only = none_from p 0 n (λ k below here.
    let within : k < n = omega (arith, below) in let same : k ≡ c = only k within here in omega arith)

-- no other number can pass, and this one does not
pub none_passes : (p : ℕ → Bool) (n c : ℕ) → p c ≡ false → ((k : ℕ) → k < n → p k ≡ true → k ≡ c) →
    find p (range_with_len 0 n) ≡ None
none_passes p n c fails only = none_from p 0 n (λ k below here.
    let within : k < n = omega (arith, below) in let same : k ≡ c = only k within here in cc)

-- the letter and the number are the token
pub only_numbered : (letter : ℕ) (token : List ℕ) (c : ℕ) →
    ((n : ℕ) → n < 100 → decimal n ≡ drop 1 token → c ≡ n) → (limit : ℕ) → limit ≤ 100 →
    (k : ℕ) → k < limit → bytes_eq (letter ∷ decimal k) token ≡ true → k ≡ c
only_numbered letter token c only limit few k within e =
    let same : letter ∷ decimal k ≡ token = (bytes_eq-Decides (letter ∷ decimal k) token).0 e in
    sym (only k (omega arith) (ap (drop 1) same))

-- a number below 100 has one digit or two
two_of : (n : ℕ) → 10 ≤ n → n < 100 → decimal n ≡ (48 + n / 10) ∷ (48 + n % 10) ∷ []
two_of n some few =
    decimal_step n some (omega arith)
    ∙ ap (λ front. front ++ (48 + n % 10) ∷ []) (decimal_digit (n / 10) (omega arith))

pub one_digit : (n : ℕ) (digits : List ℕ) → n < 100 → decimal n ≡ digits → length digits < 2 →
    min (slice_index digits 0 - 48) 9 ≡ n
one_digit n digits few e short = elim (cases_lt n 10) [
  | inl below ↦
      let same : digits ≡ (48 + n) ∷ [] = sym e ∙ decimal_digit n below in
      subst (λ ds. min (slice_index ds 0 - 48) 9 ≡ n) (sym same) (omega arith)
  | inr past ↦ let two = two_of n past few in let long = ap length (sym e ∙ two) in absurd (omega arith)
]

pub two_digits : (n : ℕ) (digits : List ℕ) → n < 100 → decimal n ≡ digits → 2 ≤ length digits →
    min (slice_index digits 0 - 48) 9 * 10 + min (slice_index digits 1 - 48) 9 ≡ n
two_digits n digits few e long = elim (cases_lt n 10) [
  | inl below ↦ let one = decimal_digit n below in let short = ap length (sym e ∙ one) in absurd (omega arith)
  | inr past ↦
      let same : digits ≡ (48 + n / 10) ∷ (48 + n % 10) ∷ [] = sym e ∙ two_of n past few in
      subst (λ ds. min (slice_index ds 0 - 48) 9 * 10 + min (slice_index ds 1 - 48) 9 ≡ n) (sym same) (omega arith)
]

pub no_digit : (n : ℕ) (digits : List ℕ) → decimal n ≡ digits → n < 100 → 1 ≤ length digits
no_digit n digits e few = elim (cases_lt n 10) [
  | inl below ↦ let one = decimal_digit n below in let size = ap length (sym e ∙ one) in omega arith
  | inr past ↦ let two = two_of n past few in let size = ap length (sym e ∙ two) in omega arith
]

pub few_digits : (n : ℕ) (digits : List ℕ) → decimal n ≡ digits → n < 100 → length digits ≤ 2
few_digits n digits e few = elim (cases_lt n 10) [
  | inl below ↦ let one = decimal_digit n below in let size = ap length (sym e ∙ one) in omega arith
  | inr past ↦ let two = two_of n past few in let size = ap length (sym e ∙ two) in omega arith
]
