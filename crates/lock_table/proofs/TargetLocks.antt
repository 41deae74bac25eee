-- What a test finds among the locks at one target.
use Rattle.std.proofs.Common.{◌≡◌, ℕ, ◌-◌, ◌*◌, ◌%◌, ◌^◌, ◌<◌, Bool, true, false, not, ◌&&◌, ◌||◌, eqb, List, [], ◌∷◌}
use Rattle.std.proofs.Common.{◌++◌, map, refl, ap, sym, ◌∙◌, pos, Some}
use Rattle.std.specs.List.{list_any}
use Rattle.std.specs.Prelude.{bit_and, bit_or}
use Rattle.std.proofs.lemmas.Bool.{eq-eqb}
use Rattle.std.proofs.lemmas.List.Folds.{list_any-append}
use Rattle.list_laws.proofs.Tests.{any_alike, any_filter, any_map}
use Rattle.rma_types.specs.declared.calls.Lock.{Lock}
use Rattle.rma_types.specs.declared.calls.Lock.TheVariants.{Shared as SharedLock, Exclusive as ExclusiveLock}
use Rattle.board_rules.specs.Locks.{Held, is_given_back, excludes}
use Rattle.lock_table.specs.declared.targets.Target.{Target}
use Rattle.lock_table.specs.declared.targets.Target.TheVariants.{Shared, Exclusive}
use Rattle.lock_table.specs.HeldLocks.{lock, ranks_in, kept, is_holder, locks_at_target}
use Rattle.lock_table.proofs.RankMasks.{some_in, is_in, any_set, any_cleared, none_in_zero}

abbrev pub shared : ℕ → ℕ → ℕ → List Held
shared window target holders = map (lock window target SharedLock) (ranks_in 16 holders)

pub shared_any : (window target holders : ℕ) (test : Held → Bool) →
    list_any test (shared window target holders) ≡ list_any (λ rank. test (lock window target SharedLock rank))
    (ranks_in 16 holders)
shared_any window target holders test = any_map test (lock window target SharedLock) (ranks_in 16 holders)

pub shared_held : (window target holders : ℕ) → holders < 2 ^ 16 → not (eqb holders 0) ≡ list_any (λ (_ : Held). true)
    (shared window target holders)
shared_held window target holders small = sym (shared_any window target holders (λ _. true) ∙ some_in holders small)

pub shared_free : (window target holders : ℕ) → holders < 2 ^ 16 →
    eqb holders 0 ≡ not (list_any (λ (one : Held). excludes ExclusiveLock one.kind) (shared window target holders))
shared_free window target holders small = sym (ap not (sym (shared_held window target holders small))
    ∙ twice (eqb holders 0))
  where
    twice : (b : Bool) → not (not b) ≡ b
    twice true = refl
    twice false = refl

pub shared_beside : (window target holders : ℕ) → list_any (λ (one : Held). excludes SharedLock one.kind)
    (shared window target holders) ≡ false
shared_beside window target holders =
    shared_any window target holders (λ one. excludes SharedLock one.kind) ∙ never (ranks_in 16 holders)
  where
    never : (ranks : List ℕ) → list_any (λ (_ : ℕ). false) ranks ≡ false
    never [] = refl
    never (rank ∷ ranks) = never ranks

pub shared_by : (window target holders rank : ℕ) → rank < 16 →
    not (eqb (bit_and holders (1 * 2 ^ rank % 65536)) 0) ≡ list_any (is_holder rank) (shared window target holders)
shared_by window target holders rank within = is_in holders rank within
    ∙ sym (shared_any window target holders (is_holder rank))

pub shared_with : (window target holders rank : ℕ) → rank < 16 → (test : Held → Bool) →
    list_any test (shared window target (bit_or holders (1 * 2 ^ rank % 65536)))
    ≡ list_any test (shared window target holders ++ lock window target SharedLock rank ∷ [])
shared_with window target holders rank within test =
    shared_any window target (bit_or holders (1 * 2 ^ rank % 65536)) test
    ∙ (any_set (λ r. test (lock window target SharedLock r)) holders rank within
    ∙ sym (list_any-append test (shared window target holders) (lock window target SharedLock rank ∷ [])
    ∙ rw (shared_any window target holders test)
    (ap (λ b. list_any (λ r. test (lock window target SharedLock r)) (ranks_in 16 holders) || b)
    (last (test (lock window target SharedLock rank))))))
  where
    last : (b : Bool) → (b || false) ≡ b
    last true = refl
    last false = refl

-- a lock of this window and target is given back by its holder alone
pub given_back_here : (window target : ℕ) (kind : Lock) (rank holder : ℕ) →
    is_given_back rank window (Some (pos target)) (lock window target kind holder) ≡ eqb holder rank
given_back_here window target kind rank holder =
    rw (eq-eqb window window refl, eq-eqb target target refl) (last (eqb holder rank))
  where
    last : (b : Bool) → ((b && true) && true) ≡ b
    last true = refl
    last false = refl

pub shared_without : (window target holders rank : ℕ) → rank < 16 → (test : Held → Bool) →
    list_any test (shared window target (bit_and holders (65535 - 1 * 2 ^ rank % 65536)))
    ≡ list_any test (kept rank window target (shared window target holders))
shared_without window target holders rank within test =
    shared_any window target (bit_and holders (65535 - 1 * 2 ^ rank % 65536)) test
    ∙ (any_cleared (λ r. test (lock window target SharedLock r)) holders rank within
    ∙ sym (any_filter test (λ one. not (is_given_back rank window (Some (pos target)) one))
    (shared window target holders)
    ∙ (shared_any window target holders (λ one. not (is_given_back rank window (Some (pos target)) one) && test one)
    ∙ any_alike _ _ (λ r. ap (λ b. not b && test (lock window target SharedLock r))
    (given_back_here window target SharedLock rank r)) (ranks_in 16 holders))))

pub exclusive_without_same : (window target rank holder : ℕ) → holder ≡ rank → (test : Held → Bool) →
    list_any test (shared window target 0) ≡ list_any test
    (kept rank window target (lock window target ExclusiveLock holder ∷ []))
exclusive_without_same window target rank holder e test =
    shared_any window target 0 test ∙ (none_in_zero (λ r. test (lock window target SharedLock r)) 16
    ∙ sym (any_filter test (λ one. not (is_given_back rank window (Some (pos target)) one))
    (lock window target ExclusiveLock holder ∷ [])
    ∙ gone))
  where
    gone : list_any (λ one. not (is_given_back rank window (Some (pos target)) one) && test one)
        (lock window target ExclusiveLock holder ∷ []) ≡ false
    gone = rw (ap not (given_back_here window target ExclusiveLock rank holder ∙ eq-eqb holder rank e)) refl

-- where no lock stands, no test finds one
pub nothing_found : {X : Type 0} (xs : List X) → list_any (λ (_ : X). true) xs ≡ false → (test : X → Bool) →
    list_any test xs ≡ false
nothing_found [] none test = refl
nothing_found (x ∷ xs) none test = cc

-- whether a lock is excluded doesn't go by the window or the target
pub kind_alone : (kind : Lock) (window target window' target' : ℕ) (one : Target) →
    list_any (λ (l : Held). excludes kind l.kind) (locks_at_target window target one) ≡ list_any
    (λ (l : Held). excludes kind l.kind) (locks_at_target window' target' one)
kind_alone kind window target window' target' (Shared holders) =
    shared_any window target holders (λ l. excludes kind l.kind)
    ∙ sym (shared_any window' target' holders (λ l. excludes kind l.kind))
kind_alone kind window target window' target' (Exclusive holder) = refl

-- an exclusive lock excludes every other
pub exclusive_excludes : (window target : ℕ) (one : Target) →
    list_any (λ (l : Held). excludes ExclusiveLock l.kind) (locks_at_target window target one) ≡ false →
    (test : Held → Bool) → list_any test (locks_at_target window target one) ≡ false
exclusive_excludes window target one none test = nothing_found (locks_at_target window target one) none test

pub last_one : {X : Type 0} (test : X → Bool) (xs : List X) (x : X) → list_any test xs ≡ false →
    (test x || false) ≡ list_any test (xs ++ x ∷ [])
last_one test xs x none = sym (list_any-append test xs (x ∷ []) ∙ ap (λ b. b || (test x || false)) none)
