-- One number more in a set.
use Rattle.std.proofs.Common.{◌≡◌, ◌∙◌, ◌<◌, ℕ, zero, suc, refl, arith, max, ap}
use Rattle.std.specs.Prelude.{◌==◌, ◌||◌, bit_or}
use Rattle.std.specs.Int.{bit_at}
use Rattle.std.proofs.lemmas.Nat.Bits.{bit_at_or, bit_at-lt}

either_bit : (a b : ℕ) → a < 2 → b < 2 → (max a b == 1) ≡ ((a == 1) || (b == 1))
either_bit zero zero _ _ = refl
either_bit zero (suc zero) _ _ = refl
either_bit (suc zero) zero _ _ = refl
either_bit (suc zero) (suc zero) _ _ = refl
either_bit zero (suc (suc b)) _ l = absurd (omega arith)
either_bit (suc zero) (suc (suc b)) _ l = absurd (omega arith)
either_bit (suc (suc a)) b l _ = absurd (omega arith)

-- the numbers of two sets
pub both_sets : (first second number : ℕ) →
    (bit_at (bit_or first second) number == 1) ≡ ((bit_at first number == 1) || (bit_at second number == 1))
both_sets first second number =
    ap (λ b. b == 1) (bit_at_or first second number)
    ∙ either_bit (bit_at first number) (bit_at second number) (bit_at-lt first number) (bit_at-lt second number)
