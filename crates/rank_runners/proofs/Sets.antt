-- One rank more in a set.
use Rattle.std.proofs.Common.{◌≡◌, ◌∙◌, ◌<◌, ℕ, zero, suc, ◌-◌, max, refl, ap, w32}
use Rattle.std.proofs.Common.{arith}
use Rattle.std.specs.Prelude.{◌==◌, ◌&&◌, not, bit_or}
use Rattle.std.specs.Int.{bit_at, bit_not}
use Rattle.std.proofs.lemmas.Nat.{or_lt}
use Rattle.std.proofs.lemmas.Nat.Bits.{bit_at_not, bit_at_or, bit_at-lt}

-- a rank is outside two sets exactly where it is in neither
pub in_neither : (a b rank : ℕ) → a < 4294967296 → b < 4294967296 → rank < 32
    → (bit_at (bit_not w32 (bit_or a b)) rank == 1) ≡ (not (bit_at a rank == 1) && not (bit_at b rank == 1))
in_neither a b rank ha hb h =
    ap (λ n. n == 1) (bit_at_not w32 (bit_or a b) rank (or_lt 32 a b ha hb) h ∙ ap (λ n. 1 - n) (bit_at_or a b rank))
    ∙ by (bit_at a rank) (bit_at b rank) (bit_at-lt a rank) (bit_at-lt b rank)
  where
    by : (x y : ℕ) → x < 2 → y < 2 → (1 - max x y == 1) ≡ (not (x == 1) && not (y == 1))
    by zero zero p q = refl
    by zero (suc zero) p q = refl
    by zero (suc (suc y)) p q = absurd (omega arith)
    by (suc zero) zero p q = refl
    by (suc zero) (suc zero) p q = refl
    by (suc zero) (suc (suc y)) p q = absurd (omega arith)
    by (suc (suc x)) y p q = absurd (omega arith)
