-- Searches among the numbers of the ranks.
use Rattle.std.proofs.Common.{◌≡◌, ◌∙◌, ◌+◌, ◌-◌, ◌<◌, ◌≤◌, ℕ, zero, suc, Bool, true, false, cond, List, [], ◌∷◌}
use Rattle.std.proofs.Common.{take, drop, refl, sym, ap, arith}
use Rattle.std.specs.Prelude.{Some, reverse, slice_get}
use Rattle.std.specs.List.{find, filter}
use Rattle.std.proofs.lemmas.List.{reverse-append}
use Rattle.call_rules.specs.Pieces.{numbers_from}
use Rattle.call_rules.proofs.NumbersFrom.{numbers_last}

-- a number that fails the test is passed
pub find_more : (test : ℕ → Bool) (from to : ℕ) → from < to → test from ≡ false
    → find test (numbers_from (from + 1) (to - (from + 1))) ≡ find test (numbers_from from (to - from))
find_more test from to below fails = let left : to - from ≡ suc (to - (from + 1)) = omega arith in rw (left, fails) refl

-- a number that passes it is found
pub find_here : (test : ℕ → Bool) (from to : ℕ) → from < to → test from ≡ true
    → Some from ≡ find test (numbers_from from (to - from))
find_here test from to below passes = let left : to - from
    ≡ suc (to - (from + 1)) = omega arith in rw (left, passes) refl

pub drop_numbers : (first count k : ℕ) → drop k (numbers_from first count) ≡ numbers_from (first + k) (count - k)
drop_numbers first count zero =
    let from : first + 0 ≡ first = omega arith in let left : count - 0 ≡ count = omega arith in rw (from, left) refl
drop_numbers first zero (suc k) = let left : 0 - suc k ≡ 0 = omega arith in rw left refl
drop_numbers first (suc count) (suc k) =
    let from : first + suc k ≡ (first + 1) + k = omega arith in
    let left : suc count - suc k ≡ count - k = omega arith in
    rw (from, left) (drop_numbers (first + 1) count k)

pub take_numbers : (first count k : ℕ) → k ≤ count → take k (numbers_from first count) ≡ numbers_from first k
take_numbers first count zero within = refl
take_numbers first zero (suc k) within = absurd (omega arith)
take_numbers first (suc count) (suc k) within = ap (λ (rest : List ℕ). first ∷ rest)
    (take_numbers (first + 1) count k (omega arith))

-- ---- from above

pub reversed_more : (first count : ℕ)
    → reverse (numbers_from first (suc count)) ≡ (first + count) ∷ reverse (numbers_from first count)
reversed_more first count = ap (λ (xs : List ℕ). reverse xs) (numbers_last first count)
    ∙ reverse-append (numbers_from first count) ((first + count) ∷ [])

reversed : (from to : ℕ) → from < to
    → reverse (numbers_from from (to - from)) ≡ (to - 1) ∷ reverse (numbers_from from (to - 1 - from))
reversed from to h =
    let left : to - from ≡ suc (to - 1 - from) = omega arith in
    let top : from + (to - 1 - from) ≡ to - 1 = omega arith in
    rw left (ap (λ (xs : List ℕ). reverse xs) (numbers_last from (to - 1 - from))
    ∙ reverse-append (numbers_from from (to - 1 - from)) ((from + (to - 1 - from)) ∷ [])
    ∙ ap (λ n. n ∷ reverse (numbers_from from (to - 1 - from))) top)

pub find_lower : (test : ℕ → Bool) (from to : ℕ) → from < to → test (to - 1) ≡ false
    → find test (reverse (numbers_from from (to - 1 - from))) ≡ find test (reverse (numbers_from from (to - from)))
find_lower test from to h fails =
    sym (ap (find test) (reversed from to h)
    ∙ ap (λ b. cond b (Some (to - 1)) (find test (reverse (numbers_from from (to - 1 - from))))) fails)

pub find_top : (test : ℕ → Bool) (from to : ℕ) → from < to → test (to - 1) ≡ true
    → Some (to - 1) ≡ find test (reverse (numbers_from from (to - from)))
find_top test from to h passes =
    sym (ap (find test) (reversed from to h)
    ∙ ap (λ b. cond b (Some (to - 1)) (find test (reverse (numbers_from from (to - 1 - from))))) passes)

-- ---- among those that pass

pub kept_more : (test : ℕ → Bool) (from to : ℕ) → from < to
    → filter test (numbers_from from (to - from))
    ≡ cond (test from) (from ∷ filter test (numbers_from (from + 1) (to - (from + 1))))
    (filter test (numbers_from (from + 1) (to - (from + 1))))
kept_more test from to h = let left : to - from ≡ suc (to - (from + 1)) = omega arith in rw left refl

pub kept_here : (test : ℕ → Bool) (from to : ℕ) → from < to → test from ≡ true
    → filter test (numbers_from from (to - from)) ≡ from ∷ filter test (numbers_from (from + 1) (to - (from + 1)))
kept_here test from to h e =
    let rest = filter test (numbers_from (from + 1) (to - (from + 1))) in kept_more test from to h
    ∙ ap (λ b. cond b (from ∷ rest) rest) e

pub kept_past : (test : ℕ → Bool) (from to : ℕ) → from < to → test from ≡ false
    → filter test (numbers_from from (to - from)) ≡ filter test (numbers_from (from + 1) (to - (from + 1)))
kept_past test from to h e =
    let rest = filter test (numbers_from (from + 1) (to - (from + 1))) in kept_more test from to h
    ∙ ap (λ b. cond b (from ∷ rest) rest) e

-- the one at a place behind the first is one place nearer in the rest
pub got_behind : (x : ℕ) (xs : List ℕ) (at : ℕ) → 0 < at → slice_get (x ∷ xs) at ≡ slice_get xs (at - 1)
got_behind x xs zero h = absurd (omega arith)
got_behind x xs (suc at) h = let e : suc at - 1 ≡ at = omega arith in rw e refl
