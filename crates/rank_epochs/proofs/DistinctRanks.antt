-- Distinct ranks below 16 are at most 16, and stay distinct as one more comes or one goes.
use Rattle.std.proofs.Common.{◌≡◌, ℕ, zero, suc, ◌<◌, ◌≤◌, ◌==◌, Bool, true, false, not, List}
use Rattle.std.proofs.Common.{[], ◌∷◌, ◌++◌, length, refl, sym, ap, subst, arith, cond, length-append}
use Rattle.std.proofs.lemmas.Bool.{false≢true, and_parts, and_from, or_parts, not-true, not_from_false}
use Rattle.std.proofs.lemmas.Bool.{ltb-true, lt-ltb, eqb-true, eqb-false, ne_eqb}
use Rattle.std.specs.Prelude.{ℤ, pos, negsuc, Some}
use Rattle.list_laws.proofs.Tests.{without}
use Rattle.call_rules.specs.Ranks.{is_member, is_rank, natural}
use Rattle.call_rules.proofs.RankLaws.{absent_without, absent_stays, absent_append}
use Rattle.rank_rules.specs.Epochs.{AccessEpoch, Idle, FenceUnused, FenceUsed, StartTo, LocksAt, LockAll, may_lock}
use Rattle.rank_rules.specs.Epochs.{targets_locked}
use Rattle.rank_epochs.specs.Distinct.{are_distinct_ranks, has_distinct_targets}

-- ranks below a bound, none of them twice
abbrev AreBelow : ℕ → List ℕ → Type 0
AreBelow n [] = Unit {0}
AreBelow n (x ∷ xs) = (x < n) × (is_member x xs ≡ false) × AreBelow n xs

AreBelow-from_test : (xs : List ℕ) → are_distinct_ranks xs ≡ true → AreBelow 16 xs
AreBelow-from_test [] h = tt
AreBelow-from_test (x ∷ xs) h =
    let parts = and_parts _ _ h in
    let first = and_parts _ _ parts.0 in
    (ltb-true x 16 first.0, not-true _ first.1, AreBelow-from_test xs parts.1)

AreBelow-without : (n : ℕ) (xs : List ℕ) → AreBelow (suc n) xs → AreBelow n (without n xs)
AreBelow-without n [] h = tt
AreBelow-without n (y ∷ ys) h = by_test (AreBelow-without n ys h.2) (y == n) refl
  where
    by_test : AreBelow n (without n ys) → (b : Bool) → (y == n) ≡ b
        → AreBelow n (cond (not b) (y ∷ without n ys) (without n ys))
    by_test rest true e = rest
    by_test rest false e =
        let other : ¬ (y ≡ n) = eqb-false y n e in
        let low : y < suc n = h.0 in
        (omega arith, absent_without y n ys h.1, rest)

length-without : (n : ℕ) (xs : List ℕ) → AreBelow (suc n) xs → length xs ≤ suc (length (without n xs))
length-without n [] h = omega arith
length-without n (y ∷ ys) h = by_test (length-without n ys h.2) (y == n) refl
  where
    by_test : length ys ≤ suc (length (without n ys)) → (b : Bool) → (y == n) ≡ b
        → suc (length ys) ≤ suc (length (cond (not b) (y ∷ without n ys) (without n ys)))
    by_test rest true e =
        let absent : is_member n ys ≡ false = subst (λ (k : ℕ). is_member k ys ≡ false) (eqb-true y n e) h.1 in
        let same : without n ys ≡ ys = absent_stays n ys absent in
        let long : length (without n ys) ≡ length ys = ap length same in
        omega arith
    by_test rest false e = omega arith

AreBelow-length : (n : ℕ) (xs : List ℕ) → AreBelow n xs → length xs ≤ n
AreBelow-length zero [] h = omega arith
AreBelow-length zero (x ∷ xs) h = let none : x < 0 = h.0 in absurd (omega arith)
AreBelow-length (suc n) xs h =
    let rest : length (without n xs) ≤ n = AreBelow-length n (without n xs) (AreBelow-without n xs h) in
    let one : length xs ≤ suc (length (without n xs)) = length-without n xs h in
    omega arith

-- a rank more that was not there leaves them distinct
pub are_distinct_ranks-append : (xs : List ℕ) (rank : ℕ) → are_distinct_ranks xs ≡ true
    → is_member rank xs ≡ false → rank < 16 → are_distinct_ranks (xs ++ rank ∷ []) ≡ true
are_distinct_ranks-append [] rank h absent low = and_from _ _ (and_from _ _ (lt-ltb rank 16 low) refl) refl
are_distinct_ranks-append (x ∷ xs) rank h absent low =
    let parts = and_parts _ _ h in
    let first = and_parts _ _ parts.0 in
    let apart = or_parts _ _ absent in
    let other : (rank == x) ≡ false = ne_eqb rank x (λ same. eqb-false x rank apart.0 (sym same)) in
    let alone = absent_append x rank xs (not-true _ first.1) other in
    and_from _ _ (and_from _ _ first.0 (not_from_false _ alone)) (are_distinct_ranks-append xs rank parts.1 apart.1 low)

-- a rank less leaves them distinct
pub are_distinct_ranks-without : (xs : List ℕ) (rank : ℕ) → are_distinct_ranks xs ≡ true
    → are_distinct_ranks (without rank xs) ≡ true
are_distinct_ranks-without [] rank h = refl
are_distinct_ranks-without (x ∷ xs) rank h =
    let parts = and_parts _ _ h in
    let first = and_parts _ _ parts.0 in
    let rest = are_distinct_ranks-without xs rank parts.1 in
    let alone = absent_without x rank xs (not-true _ first.1) in
    elim (x == rank) as (λ b. are_distinct_ranks (cond (not b) (x ∷ without rank xs) (without rank xs)) ≡ true) [
      | true ↦ rest
      | false ↦ and_from _ _ (and_from _ _ first.0 (not_from_false _ alone)) rest
    ]

-- distinct ranks are at most 16
pub length_of_distinct_ranks : (xs : List ℕ) → are_distinct_ranks xs ≡ true → length xs ≤ 16
length_of_distinct_ranks xs h = AreBelow-length 16 xs (AreBelow-from_test xs h)

-- a rank that is not there leaves room for itself
pub room_for_rank : (xs : List ℕ) (rank : ℕ) → are_distinct_ranks xs ≡ true → is_member rank xs ≡ false → rank < 16
    → length xs < 16
room_for_rank xs rank h absent low =
    let all : length (xs ++ rank ∷ []) ≤ 16 =
    length_of_distinct_ranks (xs ++ rank ∷ []) (are_distinct_ranks-append xs rank h absent low) in
    omega (arith, length-append xs (rank ∷ []))

-- ---- the targets of an access epoch

-- a target that may be locked finds room
pub room_for_lock : (access : AccessEpoch) (target : ℤ) → has_distinct_targets access ≡ true
    → may_lock access (Some target) ≡ true → is_rank 16 target ≡ true → length (targets_locked access) < 16
room_for_lock Idle target h may rank = omega arith
room_for_lock FenceUnused target h may rank = omega arith
room_for_lock FenceUsed target h may rank = omega arith
room_for_lock (StartTo group) target h may rank = omega arith
room_for_lock (LocksAt targets) (pos n) h may rank =
    room_for_rank targets n h (not-true _ may) (ltb-true n 16 rank)
room_for_lock (LocksAt targets) (negsuc n) h may rank = absurd (false≢true rank)
room_for_lock LockAll target h may rank = omega arith

alone : (target : ℤ) → is_rank 16 target ≡ true → are_distinct_ranks (natural target ∷ []) ≡ true
alone (pos n) rank = are_distinct_ranks-append [] n refl refl (ltb-true n 16 rank)
alone (negsuc n) rank = absurd (false≢true rank)

-- and is none of the others
pub distinct_after_lock : (access : AccessEpoch) (target : ℤ) → has_distinct_targets access ≡ true
    → may_lock access (Some target) ≡ true → is_rank 16 target ≡ true
    → are_distinct_ranks (targets_locked access ++ natural target ∷ []) ≡ true
distinct_after_lock Idle target h may rank = alone target rank
distinct_after_lock FenceUnused target h may rank = alone target rank
distinct_after_lock FenceUsed target h may rank = alone target rank
distinct_after_lock (StartTo group) target h may rank = alone target rank
distinct_after_lock (LocksAt targets) (pos n) h may rank =
    are_distinct_ranks-append targets n h (not-true _ may) (ltb-true n 16 rank)
distinct_after_lock (LocksAt targets) (negsuc n) h may rank = absurd (false≢true rank)
distinct_after_lock LockAll target h may rank = alone target rank

-- the targets that are left are distinct
pub distinct_after_unlock : (access : AccessEpoch) (target : ℕ) → has_distinct_targets access ≡ true
    → are_distinct_ranks (without target (targets_locked access)) ≡ true
distinct_after_unlock Idle target h = refl
distinct_after_unlock FenceUnused target h = refl
distinct_after_unlock FenceUsed target h = refl
distinct_after_unlock (StartTo group) target h = refl
distinct_after_unlock (LocksAt targets) target h = are_distinct_ranks-without targets target h
distinct_after_unlock LockAll target h = refl
