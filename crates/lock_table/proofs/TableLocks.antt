-- What a test finds among the locks of a table.
use Rattle.std.proofs.Common.{◌≡◌, ◌≢◌, ℕ, zero, suc, ◌+◌, ◌<◌, ◌≤◌, Bool, true, false, not, ◌&&◌, ◌||◌, eqb, List, []}
use Rattle.std.proofs.Common.{◌∷◌, ◌++◌, length, get_or, set, take, replicate, refl, ap, sym, ◌∙◌, arith, pos, Some}
use Rattle.std.specs.List.{list_any}
use Rattle.std.proofs.lemmas.Bool.{eq-eqb, ne_eqb}
use Rattle.std.proofs.lemmas.List.{take_more, length-take-le}
use Rattle.std.proofs.lemmas.List.Folds.{list_any-append}
use Rattle.list_laws.proofs.Tests.{any_filter, any_alike}
use Rattle.list_laws.proofs.Truths.{or_false, or_true}
use Rattle.rma_types.specs.declared.calls.Lock.{Lock}
use Rattle.rma_types.specs.declared.calls.Lock.TheVariants.{Shared as SharedLock, Exclusive as ExclusiveLock}
use Rattle.board_rules.specs.Locks.{Held, is_given_back, excludes, do_clash}
use Rattle.lock_table.specs.declared.targets.Target.{Target}
use Rattle.lock_table.specs.declared.targets.Target.TheVariants.{Shared, Exclusive}
use Rattle.lock_table.specs.HeldLocks.{lock, ranks_in, kept, locks_at_target, locks_from, is_holder, is_held_by}
use Rattle.lock_table.specs.HeldLocks.{HasSameLocks}
use Rattle.lock_table.proofs.RankMasks.{no_rank_in_zero}
use Rattle.lock_table.proofs.TargetLocks.{shared_any}

-- two tests that agree on the locks of a target
pub target_alike : (p q : Held → Bool) (window target : ℕ) →
    ((kind : Lock) (holder : ℕ) → p (lock window target kind holder) ≡ q (lock window target kind holder)) →
    (one : Target) → list_any p (locks_at_target window target one) ≡ list_any q (locks_at_target window target one)
target_alike p q window target same (Shared holders) =
    shared_any window target holders p ∙ (any_alike _ _ (λ rank. same SharedLock rank) (ranks_in 16 holders)
    ∙ sym (shared_any window target holders q))
target_alike p q window target same (Exclusive holder) = ap (λ b. b || false) (same ExclusiveLock holder)

-- two tests that agree on the locks from a target on
pub from_alike : (p q : Held → Bool) (window first : ℕ) →
    ((target : ℕ) → first ≤ target → (kind : Lock) (holder : ℕ) → p (lock window target kind holder) ≡ q
    (lock window target kind holder)) →
    (targets : List Target) → list_any p (locks_from window first targets) ≡ list_any q
    (locks_from window first targets)
from_alike p q window first same [] = refl
from_alike p q window first same (one ∷ others) =
    list_any-append p (locks_at_target window first one) (locks_from window (first + 1) others)
    ∙ (rw (
      target_alike p q window first (same first (omega arith)) one,
      from_alike p q window (first + 1)
          (λ target low. same target (omega arith)) others,
    ) refl
    ∙ sym (list_any-append q (locks_at_target window first one) (locks_from window (first + 1) others)))

pub none_in : {X : Type 0} (xs : List X) → list_any (λ (_ : X). false) xs ≡ false
none_in [] = refl
none_in (x ∷ xs) = none_in xs

-- a test that only locks at one target can pass
pub table_any : (p q : Held → Bool) (window first i : ℕ) (targets : List Target) (d : Target) → i < length targets →
    ((target : ℕ) → target ≢ first + i → (kind : Lock) (holder : ℕ) → p (lock window target kind holder) ≡ false) →
    ((kind : Lock) (holder : ℕ) → p (lock window (first + i) kind holder) ≡ q (lock window (first + i) kind holder)) →
    list_any p (locks_from window first targets) ≡ list_any q (locks_at_target window (first + i) (get_or targets i d))
table_any p q window first i [] d within other here = absurd (omega arith)
table_any p q window first zero (one ∷ others) d within other here =
    list_any-append p (locks_at_target window first one) (locks_from window (first + 1) others)
    ∙ (ap (λ b. list_any p (locks_at_target window first one) || b)
    (from_alike p (λ _. false) window (first + 1) (λ target low. other target (λ e. absurd (omega arith))) others
    ∙ none_in (locks_from window (first + 1) others))
    ∙ (or_false (list_any p (locks_at_target window first one)) ∙ at_first))
  where
    at_first : list_any p (locks_at_target window first one) ≡ list_any q (locks_at_target window (first + 0) one)
    at_first = let e : first + 0 ≡ first = omega arith in
        rw e (target_alike p q window first (λ kind holder. rw (sym e) (here kind holder)) one)
table_any p q window first (suc i) (one ∷ others) d within other here =
    let e : first + suc i ≡ (first + 1) + i = omega arith in
    list_any-append p (locks_at_target window first one) (locks_from window (first + 1) others)
    ∙ (ap (λ b. b || list_any p (locks_from window (first + 1) others))
    (target_alike p (λ _. false) window first (other first (λ e. absurd (omega arith))) one
    ∙ none_in (locks_at_target window first one))
    ∙ rw e (table_any p q window (first + 1) i others d (omega arith)
    (λ target ne. other target (λ same. ne (same ∙ e)))
    (λ kind holder. rw (sym e) (here kind holder))))

last_or : (a n rest : Bool) → ((a || n) || rest) ≡ ((a || rest) || n)
last_or true n rest = refl
last_or false true true = refl
last_or false true false = refl
last_or false false true = refl
last_or false false false = refl

or_assoc : (a rest n : Bool) → (a || (rest || n)) ≡ ((a || rest) || n)
or_assoc true rest n = refl
or_assoc false rest n = refl

-- a target whose locks are one more
pub table_with : (test : Held → Bool) (new : Held) (window first i : ℕ) (targets : List Target) (after d : Target) →
    i < length targets →
    list_any test (locks_at_target window (first + i) after) ≡
    (list_any test (locks_at_target window (first + i) (get_or targets i d)) || test new) →
    list_any test (locks_from window first (set targets i after)) ≡
    (list_any test (locks_from window first targets) || test new)
table_with test new window first i [] after d within more = absurd (omega arith)
table_with test new window first zero (one ∷ others) after d within more =
    let e : first + 0 ≡ first = omega arith in
    let here : list_any test (locks_at_target window first after) ≡
    (list_any test (locks_at_target window first one) || test new) = rw (sym e) more in
    list_any-append test (locks_at_target window first after) (locks_from window (first + 1) others)
    ∙ (ap (λ b. b || list_any test (locks_from window (first + 1) others)) here
    ∙ (last_or (list_any test (locks_at_target window first one)) (test new)
    (list_any test (locks_from window (first + 1) others))
    ∙ ap (λ b. b || test new) (sym (list_any-append test (locks_at_target window first one)
    (locks_from window (first + 1) others)))))
table_with test new window first (suc i) (one ∷ others) after d within more =
    let e : first + suc i ≡ (first + 1) + i = omega arith in
    let later = table_with test new window (first + 1) i others after d (omega arith) (rw (sym e) more) in
    list_any-append test (locks_at_target window first one) (locks_from window (first + 1) (set others i after))
    ∙ (ap (λ b. list_any test (locks_at_target window first one) || b) later
    ∙ (or_assoc (list_any test (locks_at_target window first one))
    (list_any test (locks_from window (first + 1) others)) (test new)
    ∙ ap (λ b. b || test new) (sym (list_any-append test (locks_at_target window first one)
    (locks_from window (first + 1) others)))))

-- a target whose locks are those that a test keeps, which keeps all others
pub table_kept : (keep test : Held → Bool) (window first i : ℕ) (targets : List Target) (after d : Target) →
    i < length targets →
    ((target : ℕ) → target ≢ first + i → (kind : Lock) (holder : ℕ) → keep (lock window target kind holder) ≡ true) →
    list_any test (locks_at_target window (first + i) after) ≡ list_any (λ one. keep one && test one)
    (locks_at_target window (first + i) (get_or targets i d)) →
    list_any test (locks_from window first (set targets i after)) ≡ list_any (λ one. keep one && test one)
    (locks_from window first targets)
table_kept keep test window first i [] after d within all less = absurd (omega arith)
table_kept keep test window first zero (one ∷ others) after d within all less =
    let e : first + 0 ≡ first = omega arith in
    let here : list_any test (locks_at_target window first after) ≡ list_any (λ one. keep one && test one)
    (locks_at_target window first one) = rw (sym e) less in
    list_any-append test (locks_at_target window first after) (locks_from window (first + 1) others)
    ∙ (rw (
      here,
      from_alike test (λ one. keep one && test one) window (first + 1)
          (λ target low kind holder. ap (λ b. b && test (lock window target kind holder))
          (sym (all target (λ e. absurd (omega arith)) kind holder))) others,
    ) refl
    ∙ sym (list_any-append (λ one. keep one && test one) (locks_at_target window first one)
    (locks_from window (first + 1) others)))
table_kept keep test window first (suc i) (one ∷ others) after d within all less =
    let e : first + suc i ≡ (first + 1) + i = omega arith in
    let later = table_kept keep test window (first + 1) i others after d (omega arith)
    (λ target ne. all target (λ same. ne (same ∙ e))) (rw (sym e) less) in
    list_any-append test (locks_at_target window first one) (locks_from window (first + 1) (set others i after))
    ∙ (rw (
      later,
      target_alike test (λ one. keep one && test one) window first
          (λ kind holder. ap (λ b. b && test (lock window first kind holder))
          (sym (all first (λ e. absurd (omega arith)) kind holder))) one,
    ) refl
    ∙ sym (list_any-append (λ one. keep one && test one) (locks_at_target window first one)
    (locks_from window (first + 1) others)))

-- the locks of one target more
pub from_append : (window first : ℕ) (targets : List Target) (one : Target) (test : Held → Bool) →
    list_any test (locks_from window first (targets ++ one ∷ [])) ≡
    (list_any test (locks_from window first targets) || list_any test
    (locks_at_target window (first + length targets) one))
from_append window first [] one test =
    let e : first + 0 ≡ first = omega arith in
    rw e (list_any-append test (locks_at_target window first one) []
    ∙ or_false (list_any test (locks_at_target window first one)))
from_append window first (other ∷ targets) one test =
    let e : first + suc (length targets) ≡ (first + 1) + length targets = omega arith in
    list_any-append test (locks_at_target window first other) (locks_from window (first + 1) (targets ++ one ∷ []))
    ∙ rw (e, from_append window (first + 1) targets one test)
    (or_assoc (list_any test (locks_at_target window first other))
    (list_any test (locks_from window (first + 1) targets))
    (list_any test (locks_at_target window ((first + 1) + length targets) one))
    ∙ ap (λ b. b || list_any test (locks_at_target window ((first + 1) + length targets) one))
    (sym (list_any-append test (locks_at_target window first other) (locks_from window (first + 1) targets))))

-- the same from the first target on
pub at_target : (p q : Held → Bool) (window i : ℕ) (targets : List Target) (d : Target) → i < length targets →
    ((target : ℕ) → target ≢ i → (kind : Lock) (holder : ℕ) → p (lock window target kind holder) ≡ false) →
    ((kind : Lock) (holder : ℕ) → p (lock window i kind holder) ≡ q (lock window i kind holder)) →
    list_any p (locks_from window 0 targets) ≡ list_any q (locks_at_target window i (get_or targets i d))
at_target p q window i targets d within other here =
    let e : 0 + i ≡ i = omega arith in
    table_any p q window 0 i targets d within
    (λ target ne. other target (λ same. ne (same ∙ sym e)))
    (λ kind holder. rw e (here kind holder))
    ∙ ap (λ t. list_any q (locks_at_target window t (get_or targets i d))) e

pub clash : (window i : ℕ) (kind : Lock) (rank target : ℕ) (other : Lock) (holder : ℕ) →
    do_clash (lock window i kind rank) (lock window target other holder) ≡ (eqb i target && excludes kind other)
clash window i kind rank target other holder = rw (eq-eqb window window refl) refl

-- the locks that clash with one at a target
pub clash_at : (window i rank : ℕ) (kind : Lock) (targets : List Target) (d : Target) → i < length targets →
    list_any (do_clash (lock window i kind rank)) (locks_from window 0 targets)
    ≡ list_any (λ (one : Held). excludes kind one.kind) (locks_at_target window i (get_or targets i d))
clash_at window i rank kind targets d within =
    at_target (do_clash (lock window i kind rank)) (λ one. excludes kind one.kind) window i targets d within
    (λ target ne other holder. clash window i kind rank target other holder
    ∙ rw (ne_eqb i target (λ same. ne (sym same))) refl)
    (λ other holder. clash window i kind rank i other holder ∙ rw (eq-eqb i i refl) refl)

pub held_at : (window i : ℕ) (targets : List Target) (d : Target) → i < length targets →
    list_any (λ (one : Held). eqb one.target i) (locks_from window 0 targets)
    ≡ list_any (λ (_ : Held). true) (locks_at_target window i (get_or targets i d))
held_at window i targets d within =
    at_target (λ one. eqb one.target i) (λ _. true) window i targets d within
    (λ target ne kind holder. ne_eqb target i ne) (λ kind holder. eq-eqb i i refl)

pub held_by_at : (window i rank : ℕ) (targets : List Target) (d : Target) → i < length targets →
    list_any (is_held_by rank i) (locks_from window 0 targets)
    ≡ list_any (is_holder rank) (locks_at_target window i (get_or targets i d))
held_by_at window i rank targets d within =
    at_target (is_held_by rank i) (is_holder rank) window i targets d within
    (λ target ne kind holder. rw (ne_eqb target i ne) (never (eqb holder rank)))
    (λ kind holder. rw (eq-eqb i i refl) (always (eqb holder rank)))
  where
    never : (b : Bool) → (b && false) ≡ false
    never true = refl
    never false = refl

    always : (b : Bool) → (b && true) ≡ b
    always true = refl
    always false = refl

-- a lock more at one target
pub granted : (window i rank : ℕ) (kind : Lock) (targets : List Target) (after d : Target) → i < length targets →
    HasSameLocks (locks_at_target window i after)
    (locks_at_target window i (get_or targets i d) ++ lock window i kind rank ∷ []) →
    HasSameLocks (locks_from window 0 (set targets i after)) (locks_from window 0 targets ++ lock window i kind rank
    ∷ [])
granted window i rank kind targets after d within more test =
    let e : 0 + i ≡ i = omega arith in
    let new = lock window i kind rank in
    table_with test new window 0 i targets after d within
    (rw e (more test ∙ plus test (locks_at_target window i (get_or targets i d)) new))
    ∙ sym (plus test (locks_from window 0 targets) new)
  where
    plus : (test : Held → Bool) (held : List Held) (new : Held) → list_any test (held ++ new ∷ []) ≡
        (list_any test held || test new)
    plus test held new = list_any-append test held (new ∷ []) ∙ ap (λ b. list_any test held || b)
        (or_false (test new))

-- a lock less at one target
pub released : (window i rank : ℕ) (targets : List Target) (after d : Target) → i < length targets →
    HasSameLocks (locks_at_target window i after) (kept rank window i (locks_at_target window i (get_or targets i d))) →
    HasSameLocks (locks_from window 0 (set targets i after)) (kept rank window i (locks_from window 0 targets))
released window i rank targets after d within less test =
    let e : 0 + i ≡ i = omega arith in
    let keep : Held → Bool = λ one. not (is_given_back rank window (Some (pos i)) one) in
    table_kept keep test window 0 i targets after d within
    (λ target ne kind holder. rw (ne_eqb target i (λ same. ne (same ∙ sym e)))
    (stays (eqb holder rank && eqb window window)))
    (rw e (less test ∙ any_filter test keep (locks_at_target window i (get_or targets i d))))
    ∙ sym (any_filter test keep (locks_from window 0 targets))
  where
    stays : (b : Bool) → not (b && false) ≡ true
    stays true = refl
    stays false = refl

-- a new table has no locks
pub no_locks : (window first count : ℕ) → locks_from window first (replicate count (Shared 0)) ≡ []
no_locks window first zero = refl
no_locks window first (suc count) = rw (no_rank_in_zero 16, no_locks window (first + 1) count) refl

-- no exclusive lock up to one more target
pub none_more : (window i : ℕ) (targets : List Target) (d : Target) → i < length targets → (test : Held → Bool) →
    list_any test (locks_from window 0 (take i targets)) ≡ false →
    list_any test (locks_at_target window i (get_or targets i d)) ≡ false →
    list_any test (locks_from window 0 (take (i + 1) targets)) ≡ false
none_more window i targets d within test before here =
    let long : length (take i targets) ≡ i = length-take-le i targets (omega arith) in
    let e : 0 + length (take i targets) ≡ i = omega (arith, long) in
    rw (take_more targets i d within) (from_append window 0 (take i targets) (get_or targets i d) test
    ∙ rw (before, e, here) refl)

-- a lock at one target is one of the table
pub some_at : (window i : ℕ) (targets : List Target) (d : Target) → i < length targets → (test : Held → Bool) →
    list_any test (locks_at_target window i (get_or targets i d)) ≡ true →
    list_any test (locks_from window 0 targets) ≡ true
some_at window i targets d within test here = let e : 0 + i ≡ i = omega arith in some_from window 0 i targets d within
    test (rw e here)
  where
    some_from : (window first i : ℕ) (targets : List Target) (d : Target) → i < length targets → (test : Held → Bool) →
        list_any test (locks_at_target window (first + i) (get_or targets i d)) ≡ true →
        list_any test (locks_from window first targets) ≡ true
    some_from window first i [] d within test here = absurd (omega arith)
    some_from window first zero (one ∷ others) d within test here =
        let e : first + 0 ≡ first = omega arith in
        let found : list_any test (locks_at_target window first one) ≡ true = rw (sym e) here in
        list_any-append test (locks_at_target window first one) (locks_from window (first + 1) others) ∙ rw found refl
    some_from window first (suc i) (one ∷ others) d within test here =
        let e : first + suc i ≡ (first + 1) + i = omega arith in
        let found : list_any test (locks_from window (first + 1) others) ≡ true = some_from window
        (first + 1) i others d (omega arith) test (rw (sym e) here) in
        list_any-append test (locks_at_target window first one) (locks_from window (first + 1) others)
        ∙ (ap (λ b. list_any test (locks_at_target window first one) || b) found
        ∙ or_true (list_any test (locks_at_target window first one)))
