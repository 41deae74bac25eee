-- What one lock and one unlock more do to the kinds that are held.
use Rattle.std.proofs.Common.{◌≡◌, ℕ, ◌<◌, ◌≤◌, ◌==◌, Bool, true, false, not, ◌&&◌, ◌||◌, cond, List, [], ◌∷◌, ◌++◌}
use Rattle.std.proofs.Common.{refl, ap, sym, ◌∙◌, arith, Option, Some, None, ℤ}
use Rattle.std.proofs.lemmas.Bool.{true≢false, eqb-true, eq-eqb, lt-ltb}
use Rattle.std.proofs.lemmas.List.Folds.{list_any-append}
use Rattle.std.specs.List.{filter, list_any}
use Rattle.std.specs.Option.{option_map_or}
use Rattle.list_laws.proofs.Tests.{any_alike, any_filter, any_map}
use Rattle.list_laws.proofs.Truths.{and_three, both_left, both_right, same_truth}
use Rattle.rma_types.specs.declared.calls.Asserts.{Asserts}
use Rattle.rma_types.specs.declared.calls.Lock.{Lock}
use Rattle.rma_types.specs.declared.calls.Lock.TheVariants.{Shared, Exclusive}
use Rattle.rma_types.specs.declared.actions.Synchronisation.TheVariants.{Locks as LocksWith, Unlocks as UnlocksOf}
use Rattle.rma_types.specs.Actions.{synchronisation_of}
use Rattle.board_rules.specs.Entries.{Act}
use Rattle.board_rules.specs.Locks.{Held, held_after, held_after_entry, held_locks, is_exclusive, is_given_back}
use Rattle.board_rules.specs.Locks.{locks_at, targets_of}
use Rattle.board_rules.proofs.LockLaws.{held_more}
use Rattle.entry_gains.specs.Deeds.{IsReach}
use Rattle.entry_gains.specs.Given.{held_kind, is_held_at, is_reached}
use Rattle.entry_gains.specs.Ledgers.{HasSameLocks, side_key}
use Rattle.entry_gains.specs.Tables.{held_at, is_reached_below, is_within, lock_key, stronger}
use Rattle.entry_gains.specs.declared.deeds.Reach.{Reach}
use Rattle.entry_gains.specs.declared.ledger.Ledger.{Ledger}
use Rattle.entry_gains.specs.declared.tables.LockKey.{LockKey}
use Rattle.entry_gains.proofs.MeetLocks.{some_target, target_case}
use Rattle.entry_gains.proofs.SlotLaws.{and_both}
use Rattle.entry_gains.proofs.SlotPairs.{given_reach}
use Rattle.entry_gains.proofs.PairEdges.{reach_back}

abbrev pub LocksAre : ℕ → Ledger → List Act → Type 0
LocksAre ranks ledger entries = (window rank target : ℕ) → target < ranks →
    held_at ledger.held (lock_key (side_key window rank) target)
    ≡ held_kind (held_locks ranks entries) rank window target

-- no lock and no unlock
pub locks_kept : (ranks : ℕ) (before after : Ledger) (entries : List Act) (act : Act) → HasSameLocks before after →
    held_after_entry ranks (held_locks ranks entries) act ≡ held_locks ranks entries →
    LocksAre ranks before entries → LocksAre ranks after (entries ++ act ∷ [])
locks_kept ranks before after entries act same none were window rank target below =
    same (lock_key (side_key window rank) target) ∙ (were window rank target below
    ∙ ap (λ held. held_kind held rank window target) (sym (held_more ranks entries act ∙ none)))

-- the rank and the window are those of the entry, and it reaches the target
abbrev pub is_own : ℕ → Act → Option ℤ → ℕ → ℕ → ℕ → Bool
is_own ranks act named window rank target =
    act.window == window && act.row.rank == rank && is_reached ranks named target

own_is : (ranks : ℕ) (act : Act) (named : Option ℤ) (reach : Reach) (window rank target : ℕ) → target < 16 →
    IsReach ranks named reach →
    is_reached_below 16 (side_key act.window act.row.rank) reach (lock_key (side_key window rank) target)
    ≡ is_own ranks act named window rank target
unfolding is_reached_below
own_is ranks act named reach window rank target below is =
    ap (λ b. act.window == window && act.row.rank == rank && is_within reach target && b) (lt-ltb target 16 below)
    ∙ (of (act.window == window && act.row.rank == rank && is_within reach target)
    ∙ ap (λ b. act.window == window && act.row.rank == rank && b) (is target (omega arith)))
  where
    of : (b : Bool) → (b && true) ≡ b
    of true = refl
    of false = refl

-- ---- a lock more

-- the kind that is held, by what is found
abbrev kind_of : Bool → Bool → Option Lock
kind_of exclusive any = cond exclusive (Some Exclusive) (cond any (Some Shared) None)

kinds_joined : (e a b : Bool) (kind : Lock) → (e ≡ true → a ≡ true) →
    kind_of (e || (b && is_exclusive kind)) (a || b) ≡ cond b (Some (stronger (kind_of e a) kind)) (kind_of e a)
kinds_joined true true true kind so = refl
kinds_joined true true false kind so = refl
kinds_joined true false b kind so = absurd (true≢false (sym (so refl)))
kinds_joined false true true Shared so = refl
kinds_joined false true true Exclusive so = refl
kinds_joined false true false kind so = refl
kinds_joined false false true Shared so = refl
kinds_joined false false true Exclusive so = refl
kinds_joined false false false kind so = refl

three_to : (a b c : Bool) → (a && b && c) ≡ true → (a ≡ true) × (b ≡ true) × (c ≡ true)
three_to true true true e = (refl, refl, refl)
three_to true true false e = absurd (true≢false (sym e))
three_to true false c e = absurd (true≢false (sym e))
three_to false b c e = absurd (true≢false (sym e))

-- the locks that are taken, as a test finds them
taken : (ranks : ℕ) (act : Act) (kind : Lock) (named : Option ℤ) (window rank target : ℕ) →
    list_any (is_held_at rank window target) (locks_at act.row.rank act.window kind (targets_of ranks named))
    ≡ is_own ranks act named window rank target
taken ranks act kind named window rank target =
    any_map (is_held_at rank window target) (λ at. record {
      holder = act.row.rank;
      window = act.window;
      target =
          at;
      kind = kind;
    }) (targets_of ranks named)
    ∙ same_truth (list_any (λ at. act.row.rank == rank && act.window == window && at == target)
    (targets_of ranks named)) (is_own ranks act named window rank target)
    (target_case (λ at. act.row.rank == rank && act.window == window && at == target) ranks named
    (λ at reached e.
    let each : ((act.row.rank == rank) ≡ true) × ((act.window == window) ≡ true) × ((at == target) ≡ true) =
    three_to (act.row.rank == rank) (act.window == window) (at == target) e in
    and_three (act.window == window) (act.row.rank == rank)
    (is_reached ranks named target) each.1 each.0 (ap (is_reached ranks named) (sym (eqb-true at target each.2))
    ∙ reached)))
    (λ e.
    let each : ((act.window == window) ≡ true) × ((act.row.rank == rank) ≡ true) × (is_reached ranks named target
    ≡ true) = three_to (act.window == window) (act.row.rank == rank) (is_reached ranks named target) e in
    some_target (λ at. act.row.rank == rank && act.window == window && at == target) ranks named target each.2
    (and_three (act.row.rank == rank) (act.window == window)
    (target == target) each.1 each.0 (eq-eqb target target refl)))

any_and : {X : Type 0} (test : X → Bool) (b : Bool) (xs : List X) →
    list_any (λ x. test x && b) xs ≡ (list_any test xs && b)
any_and test b [] = refl
any_and test b (x ∷ xs) = ap (λ c. (test x && b) || c) (any_and test b xs) ∙ of (test x) (list_any test xs) b
  where
    of : (a c b : Bool) → ((a && b) || (c && b)) ≡ ((a || c) && b)
    of true c true = refl
    of true true false = refl
    of true false false = refl
    of false c b = refl

taken_exclusive : (ranks : ℕ) (act : Act) (kind : Lock) (named : Option ℤ) (window rank target : ℕ) →
    list_any (λ (one : Held). is_held_at rank window target one && is_exclusive one.kind)
    (locks_at act.row.rank act.window kind (targets_of ranks named))
    ≡ (is_own ranks act named window rank target && is_exclusive kind)
taken_exclusive ranks act kind named window rank target =
    any_map (λ (one : Held). is_held_at rank window target one && is_exclusive one.kind) (λ at. record {
      holder =
          act.row.rank;
      window = act.window;
      target = at;
      kind = kind;
    }) (targets_of ranks named)
    ∙ (any_and (λ at. act.row.rank == rank && act.window == window && at == target) (is_exclusive kind)
    (targets_of ranks named)
    ∙ ap (λ b. b && is_exclusive kind) (sym (any_map (is_held_at rank window target) (λ at. record {
      holder =
          act.row.rank;
      window = act.window;
      target = at;
      kind = kind;
    }) (targets_of ranks named))
    ∙ taken ranks act kind named window rank target))

weaker : (held : List Held) (rank window target : ℕ) →
    list_any (λ (one : Held). is_held_at rank window target one && is_exclusive one.kind) held ≡ true →
    list_any (is_held_at rank window target) held ≡ true
weaker [] rank window target e = e
weaker (one ∷ held) rank window target e =
    of (is_held_at rank window target one) (is_exclusive one.kind) (weaker held rank window target) e
  where
    of : (a b : Bool) {x y : Bool} → (x ≡ true → y ≡ true) → ((a && b) || x) ≡ true → (a || y) ≡ true
    of true b so e = refl
    of false b so e = so e

lock_more : (ranks : ℕ) (held : List Held) (act : Act) (kind : Lock) (named : Option ℤ) (window rank target : ℕ) →
    held_kind (held ++ locks_at act.row.rank act.window kind (targets_of ranks named)) rank window target
    ≡ cond (is_own ranks act named window rank target) (Some (stronger (held_kind held rank window target) kind))
    (held_kind held rank window target)
unfolding held_kind
lock_more ranks held act kind named window rank target =
    ap (λ b. kind_of b (list_any (is_held_at rank window target)
    (held ++ locks_at act.row.rank act.window kind (targets_of ranks named))))
    (list_any-append (λ (one : Held). is_held_at rank window target one && is_exclusive one.kind) held
    (locks_at act.row.rank act.window kind (targets_of ranks named))
    ∙ ap (λ b. list_any (λ (one : Held). is_held_at rank window target one && is_exclusive one.kind) held || b)
    (taken_exclusive ranks act kind named window rank target))
    ∙ (ap (λ b. kind_of (list_any (λ (one : Held). is_held_at rank window target one && is_exclusive one.kind) held ||
    (is_own ranks act named window rank target && is_exclusive kind)) b)
    (list_any-append (is_held_at rank window target) held
    (locks_at act.row.rank act.window kind (targets_of ranks named))
    ∙ ap (λ b. list_any (is_held_at rank window target) held || b) (taken ranks act kind named window rank target))
    ∙ kinds_joined (list_any (λ (one : Held). is_held_at rank window target one && is_exclusive one.kind) held)
    (list_any (is_held_at rank window target) held)
    (is_own ranks act named window rank target) kind (weaker held rank window target))

pub locks_set : (ranks : ℕ) (before after : Ledger) (entries : List Act) (act : Act) (kind : Lock) (named : Option ℤ)
    (asserts : Asserts) (reach : Reach) → ranks ≤ 16 →
    synchronisation_of act.row.call ≡ Some (LocksWith kind named asserts) → IsReach ranks named reach →
    ((other : LockKey) → held_at after.held other
    ≡ cond (is_reached_below 16 (side_key act.window act.row.rank) reach other)
    (Some (stronger (held_at before.held other) kind)) (held_at before.held other)) →
    LocksAre ranks before entries → LocksAre ranks after (entries ++ act ∷ [])
locks_set ranks before after entries act kind named asserts reach few is told set were window rank target below =
    set (lock_key (side_key window rank) target)
    ∙ (ap (λ b. cond b (Some (stronger (held_at before.held (lock_key (side_key window rank) target)) kind))
    (held_at before.held (lock_key (side_key window rank) target)))
    (own_is ranks act named reach window rank target (omega arith) told)
    ∙ (ap (λ k. cond (is_own ranks act named window rank target) (Some (stronger k kind)) k)
    (were window rank target below)
    ∙ sym (ap (λ held. held_kind held rank window target) (held_more ranks entries act
    ∙ ap (λ o. option_map_or (held_after ranks act.row.rank act.window (held_locks ranks entries)) o
    (held_locks ranks entries)) is)
    ∙ lock_more ranks (held_locks ranks entries) act kind named window rank target)))

-- ---- an unlock more

any_none : {X : Type 0} (test : X → Bool) → ((x : X) → test x ≡ false) → (xs : List X) → list_any test xs ≡ false
any_none test none [] = refl
any_none test none (x ∷ xs) = ap (λ b. b || list_any test xs) (none x) ∙ any_none test none xs

-- what the entry gives back is held by it
back_own : (ranks : ℕ) (act : Act) (named : Option ℤ) (window rank target : ℕ) (one : Held) → target < ranks →
    is_held_at rank window target one ≡ true →
    is_given_back act.row.rank act.window named one ≡ is_own ranks act named window rank target
back_own ranks act named window rank target one within held =
    same_truth (is_given_back act.row.rank act.window named one) (is_own ranks act named window rank target)
    (λ back. and_both _ _ (and_both _ _
    (eq-eqb _ _ (sym (eqb-true one.window act.window (both_right _ _ (both_left _ _ back)))
    ∙ eqb-true one.window window (both_right _ _ (both_left _ _ held))))
    (eq-eqb _ _ (sym (eqb-true one.holder act.row.rank (both_left _ _ (both_left _ _ back)))
    ∙ eqb-true one.holder rank (both_left _ _ (both_left _ _ held)))))
    (given_reach ranks act.row.rank act.window target named one within
    (eqb-true one.target target (both_right _ _ held)) back))
    (λ own. reach_back ranks act.row.rank act.window target named one (both_right _ _ own)
    (and_both _ _ (and_both _ _ (eq-eqb _ _ (eqb-true one.holder rank (both_left _ _ (both_left _ _ held))
    ∙ sym (eqb-true act.row.rank rank (both_right _ _ (both_left _ _ own)))))
    (eq-eqb _ _ (eqb-true one.window window (both_right _ _ (both_left _ _ held))
    ∙ sym (eqb-true act.window window (both_left _ _ (both_left _ _ own)))))) (both_right _ _ held)))

left_over : (ranks : ℕ) (act : Act) (named : Option ℤ) (window rank target : ℕ) (one : Held) → target < ranks →
    (b : Bool) → is_own ranks act named window rank target ≡ b →
    (not (is_given_back act.row.rank act.window named one) && is_held_at rank window target one)
    ≡ (not b && is_held_at rank window target one)
left_over ranks act named window rank target one within b own = of (is_held_at rank window target one) refl
  where
    of : (held : Bool) → is_held_at rank window target one ≡ held →
        (not (is_given_back act.row.rank act.window named one) && is_held_at rank window target one)
        ≡ (not b && is_held_at rank window target one)
    of true is = ap (λ x. not x && is_held_at rank window target one)
        (back_own ranks act named window rank target one within is ∙ own)
    of false is = ap (λ h. not (is_given_back act.row.rank act.window named one) && h) is
        ∙ (no (not (is_given_back act.row.rank act.window named one)) ∙ sym (ap (λ h. not b && h) is ∙ no (not b)))
      where
        no : (x : Bool) → (x && false) ≡ false
        no true = refl
        no false = refl

unlock_more : (ranks : ℕ) (held : List Held) (act : Act) (named : Option ℤ) (window rank target : ℕ) → target < ranks →
    held_kind (filter (λ (one : Held). not (is_given_back act.row.rank act.window named one)) held) rank window target
    ≡ cond (is_own ranks act named window rank target) None (held_kind held rank window target)
unfolding held_kind
unlock_more ranks held act named window rank target within = of (is_own ranks act named window rank target) refl
  where
    assoc : (a b c : Bool) → (a && (b && c)) ≡ ((a && b) && c)
    assoc true b c = refl
    assoc false b c = refl

    any : (b : Bool) → is_own ranks act named window rank target ≡ b →
        list_any (is_held_at rank window target)
        (filter (λ (one : Held). not (is_given_back act.row.rank act.window named one)) held)
        ≡ list_any (λ one. not b && is_held_at rank window target one) held
    any b own = any_filter (is_held_at rank window target)
        (λ one. not (is_given_back act.row.rank act.window named one)) held
        ∙ any_alike (λ one. not (is_given_back act.row.rank act.window named one) && is_held_at rank window target one)
        (λ one. not b && is_held_at rank window target one)
        (λ one. left_over ranks act named window rank target one within b own) held

    exclusive : (b : Bool) → is_own ranks act named window rank target ≡ b →
        list_any (λ (one : Held). is_held_at rank window target one && is_exclusive one.kind)
        (filter (λ (one : Held). not (is_given_back act.row.rank act.window named one)) held)
        ≡ list_any (λ (one : Held). (not b && is_held_at rank window target one) && is_exclusive one.kind) held
    exclusive b own = any_filter (λ (one : Held). is_held_at rank window target one && is_exclusive one.kind)
        (λ one. not (is_given_back act.row.rank act.window named one)) held
        ∙ any_alike (λ (one : Held). not (is_given_back act.row.rank act.window named one) &&
        (is_held_at rank window target one && is_exclusive one.kind))
        (λ (one : Held). (not b && is_held_at rank window target one) && is_exclusive one.kind)
        (λ (one : Held). assoc (not (is_given_back act.row.rank act.window named one))
        (is_held_at rank window target one) (is_exclusive one.kind)
        ∙ ap (λ x. x && is_exclusive one.kind) (left_over ranks act named window rank target one within b own)) held

    of : (b : Bool) → is_own ranks act named window rank target ≡ b →
        kind_of (list_any (λ (one : Held). is_held_at rank window target one && is_exclusive one.kind)
        (filter (λ (one : Held). not (is_given_back act.row.rank act.window named one)) held))
        (list_any (is_held_at rank window target)
        (filter (λ (one : Held). not (is_given_back act.row.rank act.window named one)) held))
        ≡ cond b None (kind_of (list_any (λ (one : Held).
        is_held_at rank window target one && is_exclusive one.kind) held)
        (list_any (is_held_at rank window target) held))
    of true own =
        ap (λ x. kind_of x (list_any (is_held_at rank window target)
        (filter (λ (one : Held). not (is_given_back act.row.rank act.window named one)) held))) (exclusive true own
        ∙ any_none (λ (one : Held). (not true && is_held_at rank window target one) && is_exclusive one.kind)
        (λ one. refl) held)
        ∙ ap (kind_of false) (any true own
        ∙ any_none (λ one. not true && is_held_at rank window target one) (λ one. refl) held)
    of false own =
        ap (λ x. kind_of x (list_any (is_held_at rank window target)
        (filter (λ (one : Held). not (is_given_back act.row.rank act.window named one)) held)))
        (exclusive false own)
        ∙ ap (kind_of (list_any (λ (one : Held). is_held_at rank window target one && is_exclusive one.kind) held))
        (any false own)

pub unlocks_set : (ranks : ℕ) (before after : Ledger) (entries : List Act) (act : Act) (named : Option ℤ)
    (reach : Reach) → ranks ≤ 16 → synchronisation_of act.row.call ≡ Some (UnlocksOf named) →
    IsReach ranks named reach →
    ((other : LockKey) → held_at after.held other
    ≡ cond (is_reached_below 16 (side_key act.window act.row.rank) reach other) None (held_at before.held other)) →
    LocksAre ranks before entries → LocksAre ranks after (entries ++ act ∷ [])
unlocks_set ranks before after entries act named reach few is told set were window rank target below =
    set (lock_key (side_key window rank) target)
    ∙ (ap (λ b. cond b None (held_at before.held (lock_key (side_key window rank) target)))
    (own_is ranks act named reach window rank target (omega arith) told)
    ∙ (ap (cond (is_own ranks act named window rank target) None) (were window rank target below)
    ∙ sym (ap (λ held. held_kind held rank window target) (held_more ranks entries act
    ∙ ap (λ o. option_map_or (held_after ranks act.row.rank act.window (held_locks ranks entries)) o
    (held_locks ranks entries)) is)
    ∙ unlock_more ranks (held_locks ranks entries) act named window rank target below)))
