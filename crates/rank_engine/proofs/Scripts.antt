-- The calls of a script that a text can say.
use Rattle.std.proofs.Common.{◌≡◌, ℕ, zero, suc, ◌+◌, ◌≤◌, List, [], ◌∷◌, length, None, refl, ap, arith}
use Rattle.std.specs.Prelude.{slice_get, slice_index_or}
use Rattle.std.specs.List.{sum_by}
use Rattle.std.proofs.lemmas.List.Sums.{sum_by-cons}
use Rattle.rma_types.specs.declared.scripts.Script.{Script}
use Rattle.call_rules.specs.WellFormed.{IsWellFormed}
use Rattle.lawful_runs.specs.Logs.{calls_of}

pub none_of : {X : Type 0} (xs : List X) (i : ℕ) (d : X) → slice_get xs i ≡ None → slice_index_or xs i d ≡ d
none_of [] i d e = refl
none_of (x ∷ xs) zero d e = absurd (cc e)
none_of (x ∷ xs) (suc i) d e = none_of xs i d e

-- a list of some lists is no longer than all together
one_list : {X : Type 0} (lists : List (List X)) (i : ℕ) → length (slice_index_or lists i []) ≤ sum_by length lists
one_list [] i = omega arith
one_list {X} (xs ∷ lists) zero = first (length xs) (sum_by length lists) (sum_by length (xs ∷ lists))
    (sum_by-cons {X = List X} length xs lists)
  where
    first : (a b all : ℕ) → all ≡ a + b → a ≤ all
    first a b all e = omega arith
one_list {X} (xs ∷ lists) (suc i) = later (length (slice_index_or lists i [])) (length xs) (sum_by length lists)
    (sum_by length (xs ∷ lists)) (sum_by-cons {X = List X} length xs lists) (one_list lists i)
  where
    later : (one a b all : ℕ) → all ≡ a + b → one ≤ b → one ≤ all
    later one a b all e h = omega arith

pub calls_are_few : (script : Script) (rank : ℕ) → IsWellFormed script → length (calls_of script rank) ≤ 65536
calls_are_few script rank formed =
    within (length (calls_of script rank)) (sum_by length script.calls) (one_list script.calls rank) formed.limits.calls
  where
    within : (a b : ℕ) → a ≤ b → b ≤ 65536 → a ≤ 65536
    within a b h k = omega arith
