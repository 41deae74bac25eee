-- That no two locks of a table exclude each other.
use Rattle.std.proofs.Common.{◌≡◌, ℕ, ◌+◌, false, List, [], ◌∷◌, ◌++◌, map, refl, ◌∙◌, arith}
use Rattle.std.specs.List.{list_any}
use Rattle.std.proofs.lemmas.Bool.{eq-eqb, ne_eqb}
use Rattle.std.proofs.lemmas.List.Folds.{list_any-append}
use Rattle.list_laws.proofs.Tests.{any_map, any_alike}
use Rattle.rma_types.specs.declared.calls.Lock.{Lock}
use Rattle.rma_types.specs.declared.calls.Lock.TheVariants.{Shared as SharedLock, Exclusive as ExclusiveLock}
use Rattle.board_rules.specs.Locks.{Held, do_clash}
use Rattle.lock_table.specs.declared.targets.Target.{Target}
use Rattle.lock_table.specs.declared.targets.Target.TheVariants.{Shared, Exclusive}
use Rattle.lock_table.specs.HeldLocks.{NoTwoClash, lock, locks_at_target, locks_from, ranks_in}
use Rattle.lock_table.proofs.TableLocks.{clash, from_alike, none_in}

-- shared locks at a target do not clash
shared_together : (window target rank : ℕ) (ranks : List ℕ) →
    list_any (do_clash (lock window target SharedLock rank)) (map (lock window target SharedLock) ranks) ≡ false
shared_together window target rank ranks =
    any_map (do_clash (lock window target SharedLock rank)) (lock window target SharedLock) ranks
    ∙ (any_alike (λ other. do_clash (lock window target SharedLock rank) (lock window target SharedLock other))
    (λ _. false) (λ other. clash window target SharedLock rank target SharedLock other
    ∙ rw (eq-eqb target target refl) refl) ranks
    ∙ none_in ranks)

-- the locks at a target, before locks that clash with none at it
first_apart : (window target : ℕ) (one : Target) (later : List Held) →
    ((kind : Lock) (holder : ℕ) → list_any (do_clash (lock window target kind holder)) later ≡ false) →
    NoTwoClash later → NoTwoClash (locks_at_target window target one ++ later)
first_apart window target (Shared holders) later none apart = shared_apart (ranks_in 16 holders)
  where
    shared_apart : (ranks : List ℕ) → NoTwoClash (map (lock window target SharedLock) ranks ++ later)
    shared_apart [] = apart
    shared_apart (rank ∷ ranks) = (
      list_any-append (do_clash (lock window target SharedLock rank)) (map (lock window target SharedLock) ranks) later
          ∙ rw (shared_together window target rank ranks, none SharedLock rank) refl,
      shared_apart ranks,
    )
first_apart window target (Exclusive holder) later none apart = (none ExclusiveLock holder, apart)

pub no_two_clash : (window first : ℕ) (targets : List Target) → NoTwoClash (locks_from window first targets)
no_two_clash window first [] = tt
no_two_clash window first (one ∷ others) =
    first_apart window first one (locks_from window (first + 1) others)
    (λ kind holder.
    from_alike (do_clash (lock window first kind holder)) (λ _. false) window (first + 1)
    (λ target low other rank. clash window first kind holder target other rank
    ∙ rw (ne_eqb first target (λ same. absurd (omega arith))) refl) others
    ∙ none_in (locks_from window (first + 1) others))
    (no_two_clash window (first + 1) others)
