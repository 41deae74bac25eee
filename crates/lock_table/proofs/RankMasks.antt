-- What a test finds among the ranks of a mask, and of a mask with a bit set or cleared.
use Rattle.std.proofs.Common.{◌≡◌, ℕ, zero, suc, ◌+◌, ◌-◌, ◌*◌, ◌%◌, ◌^◌, ◌<◌, ◌≤◌, Bool, true, false, not, ◌&&◌, ◌||◌}
use Rattle.std.proofs.Common.{eqb, List, [], ◌∷◌, refl, ap, sym, ◌∙◌, arith, ⊎_elim}
use Rattle.std.specs.List.{list_any, filter}
use Rattle.std.specs.Int.{bit_at, w16}
use Rattle.std.specs.Prelude.{bit_and, bit_or}
use Rattle.std.proofs.lemmas.Bool.{cases_eq, eq-eqb, ne_eqb, or_parts, cases_Bool}
use Rattle.std.proofs.lemmas.Nat.{one_shl, pow_pos}
use Rattle.std.proofs.lemmas.Nat.Bits.{bit_at_set_same, bit_at_set_other, bit_at_clear_same, bit_at_clear_other}
use Rattle.std.proofs.lemmas.Nat.Bits.{and_pow, same_from_bits_below, bit_at-zero, bit_at-lt}
use Rattle.std.proofs.Math.Nat.{zero-mul}
use Rattle.list_laws.proofs.Tests.{any_filter}
use Rattle.call_rules.specs.Pieces.{numbers_from}
use Rattle.call_rules.proofs.NumbersFrom.{any_numbers, no_number}
use Rattle.lock_table.specs.HeldLocks.{ranks_in}

pub any_in : (test : ℕ → Bool) (ranks mask : ℕ) → list_any test (ranks_in ranks mask) ≡ list_any
    (λ rank. eqb (bit_at mask rank) 1 && test rank) (numbers_from 0 ranks)
unfolding ranks_in
any_in test ranks mask = any_filter test (λ rank. eqb (bit_at mask rank) 1) (numbers_from 0 ranks)

pub each_none : (p : ℕ → Bool) (first count : ℕ) → list_any p (numbers_from first count) ≡ false → (r : ℕ) → first ≤ r →
    r < first + count → p r ≡ false
each_none p first zero none r low high = absurd (omega arith)
each_none p first (suc count) none r low high =
    let parts = or_parts (p first) (list_any p (numbers_from (first + 1) count)) none in
    ⊎_elim (λ e. rw e parts.0) (λ ne. each_none p (first + 1) count parts.1 r (omega arith) (omega arith))
    (cases_eq r first)

pub any_or : {X : Type 0} (p q : X → Bool) (xs : List X) → list_any (λ x. p x || q x) xs ≡
    (list_any p xs || list_any q xs)
any_or p q [] = refl
any_or p q (x ∷ xs) = rw (any_or p q xs) (regroup (p x) (q x) (list_any p xs) (list_any q xs))
  where
    regroup : (a b c d : Bool) → ((a || b) || (c || d)) ≡ ((a || c) || (b || d))
    regroup true b c d = refl
    regroup false true true d = refl
    regroup false true false d = refl
    regroup false false true d = refl
    regroup false false false d = refl

-- a test that one rank alone can pass
pub any_only : (test : ℕ → Bool) (rank first count : ℕ) → first ≤ rank → rank < first + count →
    list_any (λ r. eqb r rank && test r) (numbers_from first count) ≡ test rank
any_only test rank first zero low high = absurd (omega arith)
any_only test rank first (suc count) low high = ⊎_elim
    (λ e.
    let none : list_any (λ r. eqb r rank && test r) (numbers_from (first + 1) count) ≡ false =
    no_number _ (first + 1) count (λ r l h. rw (ne_eqb r rank (λ same. omega arith)) refl) in
    rw (none, eq-eqb first rank (sym e), e) (or_nothing (test first)))
    (λ ne.
    let other : eqb first rank ≡ false = ne_eqb first rank (λ same. ne (sym same)) in
    rw other (any_only test rank (first + 1) count (omega arith) (omega arith)))
    (cases_eq rank first)
  where
    or_nothing : (b : Bool) → (b || false) ≡ b
    or_nothing true = refl
    or_nothing false = refl

-- a mask is zero exactly where no rank is in it
pub none_in_zero : (test : ℕ → Bool) (ranks : ℕ) → list_any test (ranks_in ranks 0) ≡ false
none_in_zero test ranks = any_in test ranks 0 ∙ no_number _ 0 ranks (λ r low high. rw (bit_at-zero r) refl)

pub some_in : (mask : ℕ) → mask < 2 ^ 16 → list_any (λ (_ : ℕ). true) (ranks_in 16 mask) ≡ not (eqb mask 0)
some_in mask small = any_in (λ _. true) 16 mask ∙ ⊎_elim
    (λ e.
    let zero : eqb mask 0 ≡ true = eq-eqb mask 0 e in
    let none : list_any (λ rank. eqb (bit_at mask rank) 1 && true) (numbers_from 0 16) ≡ false =
    no_number (λ rank. eqb (bit_at mask rank) 1 && true) 0 16
    (λ r low high. no_bit mask r (ap (λ m. bit_at m r) e ∙ bit_at-zero r)) in
    cc)
    (λ ne. rw (ne_eqb mask 0 ne) (⊎_elim (λ yes. yes)
    (λ none. absurd (ne (same_from_bits_below 16 mask 0 small (omega arith) (λ i below.
    zero_bit mask i (each_none (λ rank. eqb (bit_at mask rank) 1 && true) 0 16 none i (omega arith) (omega arith))
    ∙ sym (bit_at-zero i)))))
    (cases_Bool (list_any (λ rank. eqb (bit_at mask rank) 1 && true) (numbers_from 0 16)))))
    (cases_eq mask 0)
  where
    no_bit : (mask i : ℕ) → bit_at mask i ≡ 0 → (eqb (bit_at mask i) 1 && true) ≡ false
    no_bit mask i e = ap (λ b. eqb b 1 && true) e

    zero_bit : (mask i : ℕ) → (eqb (bit_at mask i) 1 && true) ≡ false → bit_at mask i ≡ 0
    zero_bit mask i none =
        let below : bit_at mask i < 2 = bit_at-lt mask i in
        ⊎_elim (λ one. absurd (let h : eqb (bit_at mask i) 1 ≡ true = eq-eqb (bit_at mask i) 1 one in cc))
        (λ ne. omega arith) (cases_eq (bit_at mask i) 1)

pub is_in : (mask rank : ℕ) → rank < 16 → not (eqb (bit_and mask (1 * 2 ^ rank % 65536)) 0) ≡ list_any (λ r. eqb r rank)
    (ranks_in 16 mask)
is_in mask rank within =
    rw (one_shl rank 16 within, and_pow mask rank)
    (⊎_elim
    (λ one.
    let some : eqb (bit_at mask rank * 2 ^ rank) 0 ≡ false =
    ne_eqb (bit_at mask rank * 2 ^ rank) 0 (λ zero.
    let flat : 1 * 2 ^ rank ≡ 0 = sym (ap (λ b. b * 2 ^ rank) one) ∙ zero in
    let p : 0 < 2 ^ rank = pow_pos rank in
    omega arith) in
    rw (found one, some) refl)
    (λ ne.
    let none : bit_at mask rank ≡ 0 = let below : bit_at mask rank < 2 = bit_at-lt mask rank in omega arith in
    let empty : eqb (bit_at mask rank * 2 ^ rank) 0 ≡ true = eq-eqb (bit_at mask rank * 2 ^ rank) 0
    (ap (λ b. b * 2 ^ rank) none ∙ zero-mul (2 ^ rank)) in
    rw (missed none, empty) refl)
    (cases_eq (bit_at mask rank) 1))
  where
    flipped : list_any (λ r. eqb r rank) (ranks_in 16 mask) ≡ eqb (bit_at mask rank) 1
    flipped = any_in (λ r. eqb r rank) 16 mask
        ∙ (any_numbers _ _ 0 16 (λ r low high. swap (eqb (bit_at mask r) 1) (eqb r rank))
        ∙ any_only (λ r. eqb (bit_at mask r) 1) rank 0 16 (omega arith) (omega arith))
      where
        swap : (a b : Bool) → (a && b) ≡ (b && a)
        swap true true = refl
        swap true false = refl
        swap false true = refl
        swap false false = refl

    found : bit_at mask rank ≡ 1 → list_any (λ r. eqb r rank) (ranks_in 16 mask) ≡ true
    found one = flipped ∙ eq-eqb (bit_at mask rank) 1 one

    missed : bit_at mask rank ≡ 0 → list_any (λ r. eqb r rank) (ranks_in 16 mask) ≡ false
    missed none = flipped ∙ rw none refl

pub any_set : (test : ℕ → Bool) (mask rank : ℕ) → rank < 16 →
    list_any test (ranks_in 16 (bit_or mask (1 * 2 ^ rank % 65536))) ≡ (list_any test (ranks_in 16 mask) || test rank)
any_set test mask rank within =
    let new = bit_or mask (1 * 2 ^ rank % 65536) in
    any_in test 16 new
    ∙ (any_numbers (λ r. eqb (bit_at new r) 1 && test r)
    (λ r. (eqb (bit_at mask r) 1 && test r) || (eqb r rank && test r)) 0 16 at
    ∙ (any_or (λ r. eqb (bit_at mask r) 1 && test r) (λ r. eqb r rank && test r) (numbers_from 0 16)
    ∙ rw (any_only test rank 0 16 (omega arith) (omega arith), any_in test 16 mask) refl))
  where
    absorb : (a b : Bool) → b ≡ ((a && b) || b)
    absorb true true = refl
    absorb true false = refl
    absorb false b = refl

    nothing : (b : Bool) → b ≡ (b || false)
    nothing true = refl
    nothing false = refl

    at : (r : ℕ) → 0 ≤ r → r < 0 + 16 → (eqb (bit_at (bit_or mask (1 * 2 ^ rank % 65536)) r) 1 && test r) ≡
        ((eqb (bit_at mask r) 1 && test r) || (eqb r rank && test r))
    at r low high = ⊎_elim
        (λ e.
        let set : bit_at (bit_or mask (1 * 2 ^ rank % 65536)) r ≡ 1 =
        ap (λ x. bit_at (bit_or mask (1 * 2 ^ rank % 65536)) x) e ∙ bit_at_set_same w16 mask rank within in
        rw (ap (λ b. eqb b 1) set, eq-eqb r rank e) (absorb (eqb (bit_at mask r) 1) (test r)))
        (λ ne.
        let same : bit_at (bit_or mask (1 * 2 ^ rank % 65536)) r ≡ bit_at mask r = bit_at_set_other w16 mask rank within
        r ne in
        rw (ap (λ b. eqb b 1) same, ne_eqb r rank ne) (nothing (eqb (bit_at mask r) 1 && test r)))
        (cases_eq r rank)

pub any_cleared : (test : ℕ → Bool) (mask rank : ℕ) → rank < 16 →
    list_any test (ranks_in 16 (bit_and mask (65535 - 1 * 2 ^ rank % 65536))) ≡ list_any
    (λ r. not (eqb r rank) && test r) (ranks_in 16 mask)
any_cleared test mask rank within =
    let new = bit_and mask (65535 - 1 * 2 ^ rank % 65536) in
    any_in test 16 new
    ∙ (any_numbers (λ r. eqb (bit_at new r) 1 && test r) (λ r. eqb (bit_at mask r) 1 && (not (eqb r rank) && test r)) 0
    16
    at
    ∙ sym (any_in (λ r. not (eqb r rank) && test r) 16 mask))
  where
    never : (b : Bool) → false ≡ (b && false)
    never true = refl
    never false = refl

    at : (r : ℕ) → 0 ≤ r → r < 0 + 16 → (eqb (bit_at (bit_and mask (65535 - 1 * 2 ^ rank % 65536)) r) 1 && test r) ≡
        (eqb (bit_at mask r) 1 && (not (eqb r rank) && test r))
    at r low high = ⊎_elim
        (λ e.
        let clear : bit_at (bit_and mask (65535 - 1 * 2 ^ rank % 65536)) r ≡ 0 =
        ap (λ x. bit_at (bit_and mask (65535 - 1 * 2 ^ rank % 65536)) x) e ∙ bit_at_clear_same w16 mask rank within in
        rw (ap (λ b. eqb b 1) clear, eq-eqb r rank e) (never (eqb (bit_at mask r) 1)))
        (λ ne.
        let same : bit_at (bit_and mask (65535 - 1 * 2 ^ rank % 65536)) r ≡ bit_at mask r = bit_at_clear_other w16 mask
        rank within r high ne in
        rw (ap (λ b. eqb b 1) same, ne_eqb r rank ne) refl)
        (cases_eq r rank)

pub no_rank_in_zero : (ranks : ℕ) → ranks_in ranks 0 ≡ []
unfolding ranks_in
no_rank_in_zero ranks = nothing_kept (numbers_from 0 ranks)
  where
    nothing_kept : (ranks : List ℕ) → filter (λ rank. eqb (bit_at 0 rank) 1) ranks ≡ []
    nothing_kept [] = refl
    nothing_kept (rank ∷ ranks) = rw (bit_at-zero rank) (nothing_kept ranks)
