-- Numbers.
use Rattle.std.proofs.Common.{ℕ, ◌≤◌, arith, ◌<◌, ◌*◌, ◌^◌, ◌%◌, ◌≡◌, ◌⊎◌, inl, ap, sym, ◌∙◌, w32, inr, Result, Ok, Err}
use Rattle.std.proofs.Common.{replicate, ◌++◌, ◌∷◌, [], ◌+◌}
use Rattle.std.proofs.lemmas.Bool.{cases_eq, eq-eqb, ne_eqb}
use Rattle.std.proofs.lemmas.List.{replicate-append-replicate}
use Rattle.std.proofs.lemmas.Nat.Bits.{bit_at_set_same, bit_at_set_other}
use Rattle.std.specs.Int.{bit_at}
use Rattle.std.specs.Prelude.{bit_or, ◌==◌, ◌||◌, OnErr}

pub further : (a b c : ℕ) → a ≤ b → b ≤ c → a ≤ c
further a b c h k = omega arith

pub bit_more : (bits rank other : ℕ) → rank < 32
    → (bit_at (bit_or bits (1 * 2 ^ rank % 4294967296)) other == 1) ≡ (rank == other || (bit_at bits other == 1))
bit_more bits rank other h = by (cases_eq rank other)
  where
    all : ℕ
    all = bit_or bits (1 * 2 ^ rank % 4294967296)

    by : (rank ≡ other) ⊎ (rank ≡ other → ⊥) → (bit_at all other == 1) ≡ (rank == other || (bit_at bits other == 1))
    by (inl same) =
        ap (λ k. bit_at all k == 1) (sym same) ∙ ap (λ b. b == 1) (bit_at_set_same w32 bits rank h)
        ∙ ap (λ b. b || (bit_at bits other == 1)) (sym (eq-eqb rank other same))
    by (inr apart) =
        ap (λ b. b == 1) (bit_at_set_other w32 bits rank h other (λ e. apart (sym e)))
        ∙ ap (λ b. b || (bit_at bits other == 1)) (sym (ne_eqb rank other apart))

-- a fact that holds holds after an error
pub OnErr_always : {X E : Type 0} (result : Result X E) (P : Type 0) → P → OnErr result P
OnErr_always (Ok x) P h = tt
OnErr_always (Err e) P h = h

pub one_more_of : {X : Type 0} (n : ℕ) (x : X) → replicate n x ++ x ∷ [] ≡ replicate (n + 1) x
one_more_of n x = replicate-append-replicate n 1 x
