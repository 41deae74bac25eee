-- What tests find among locks, as one comes or goes.
use Rattle.std.proofs.Common.{◌≡◌, ℕ, ◌+◌, ◌-◌, ◌<◌, ◌≤◌, Bool, true, false, not, ◌&&◌, ◌||◌, eqb, ltb, leb, List, []}
use Rattle.std.proofs.Common.{◌∷◌, ◌++◌, map, refl, ap, sym, ◌∙◌, arith, pos, Option, Some, None, ⊎_elim, ℤ}
use Rattle.std.specs.List.{list_any}
use Rattle.std.proofs.Math.Dec.{leb-zero}
use Rattle.std.proofs.lemmas.Bool.{and_parts, and_right, cases_lt, cases_order, eq-eqb, eqb-true, le-leb, le-ltb, leb-false}
use Rattle.std.proofs.lemmas.Bool.{lt-leb, lt-ltb, ne_eqb, not-false, or_cases, or_left, or_parts, or_right}
use Rattle.list_laws.proofs.Tests.{any_alike, any_filter, any_map}
use Rattle.rma_types.specs.declared.calls.Lock.{Lock}
use Rattle.rma_types.specs.declared.calls.Lock.TheVariants.{Shared, Exclusive}
use Rattle.call_rules.specs.Pieces.{numbers_from}
use Rattle.call_rules.specs.Ranks.{natural}
use Rattle.call_rules.proofs.NumbersFrom.{no_number, some_number}
use Rattle.board_rules.specs.Locks.{Held, do_clash, excludes, is_given_back, locks_at}
use Rattle.lock_table.specs.HeldLocks.{HasSameLocks, is_held_by, kept, lock}
use Rattle.sync_board.specs.KeptLocks.{AllOn, AtRanks, asked_from, clashes, left_by, left_within}
use Rattle.sync_board.specs.Reaches.{Reaches}
use Rattle.entry_gains.specs.declared.deeds.Reach.{Reach}
use Rattle.sync_board.proofs.AnyOf.{any_more, filter_alike, numbers_up_to}

-- ---- what is asked for

pub asked_more : (rank window : ℕ) (kind : Lock) (first target : ℕ) → first ≤ target →
    asked_from rank window kind first (target + 1 - first) ≡ asked_from rank window kind first (target - first) ++ lock
    window target kind rank ∷ []
asked_more rank window kind first target low =
    ap (locks_at rank window kind) (numbers_up_to first target low)
    ∙ map_last (λ target. lock window target kind rank) (numbers_from first (target - first)) target
  where
    map_last : (f : ℕ → Held) (xs : List ℕ) (x : ℕ) → map f (xs ++ x ∷ []) ≡ map f xs ++ f x ∷ []
    map_last f [] x = refl
    map_last f (y ∷ ys) x = ap (λ zs. f y ∷ zs) (map_last f ys x)

-- a test of what is asked for, target by target
pub any_asked : (test : Held → Bool) (rank window : ℕ) (kind : Lock) (first count : ℕ) →
    list_any test (asked_from rank window kind first count) ≡ list_any (λ target. test (lock window target kind rank))
    (numbers_from first count)
any_asked test rank window kind first count = any_map test (λ target. lock window target kind rank)
    (numbers_from first count)

pub none_asked : (test : Held → Bool) (rank window : ℕ) (kind : Lock) (first count : ℕ) →
    ((target : ℕ) → first ≤ target → target < first + count → test (lock window target kind rank) ≡ false) →
    list_any test (asked_from rank window kind first count) ≡ false
none_asked test rank window kind first count none =
    any_asked test rank window kind first count ∙ no_number (λ target. test (lock window target kind rank)) first count
    none

pub one_asked : (test : Held → Bool) (rank window : ℕ) (kind : Lock) (first count target : ℕ) → first ≤ target →
    target < first + count →
    test (lock window target kind rank) ≡ true → list_any test (asked_from rank window kind first count) ≡ true
one_asked test rank window kind first count target low high found =
    any_asked test rank window kind first count ∙ some_number (λ target. test (lock window target kind rank)) first
    count target low high found

-- each that is asked for is free, where all are
pub free_at : (held : List Held) (rank window : ℕ) (kind : Lock) (first count target : ℕ) → first ≤ target →
    target < first + count →
    clashes held (asked_from rank window kind first count) ≡ false → list_any (do_clash (lock window target kind rank))
    held ≡ false
free_at held rank window kind first count target low high free =
    by_truth (list_any (do_clash (lock window target kind rank)) held) refl
  where
    by_truth : (b : Bool) → list_any (do_clash (lock window target kind rank)) held ≡ b →
        list_any (do_clash (lock window target kind rank)) held ≡ false
    by_truth false e = e
    by_truth true e =
        let found : clashes held (asked_from rank window kind first count) ≡ true =
        one_asked (λ one. list_any (do_clash one) held) rank window kind first count target low high e in
        absurd (let wrong : true ≡ false = sym found ∙ free in cc)

-- ---- a lock comes

pub same_more : (a b : List Held) (new : Held) → HasSameLocks a b → HasSameLocks (a ++ new ∷ []) (b ++ new ∷ [])
same_more a b new same test = any_more test a new ∙ (ap (λ t. t || test new) (same test) ∙ sym (any_more test b new))

same_kind : (a b : Lock) → excludes a b ≡ false → b ≡ a
same_kind Shared Shared e = refl
same_kind Shared Exclusive e = cc
same_kind Exclusive b e = cc

is_the_lock : (one : Held) (window target rank : ℕ) (kind : Lock) → eqb one.window window ≡ true →
    do_clash (lock window target kind rank) one ≡ false →
    is_held_by rank target one ≡ true → one ≡ lock window target kind rank
is_the_lock one window target rank kind on free own =
    let parts = and_parts (eqb one.holder rank) (eqb one.target target) own in
    let holder : one.holder ≡ rank = eqb-true one.holder rank parts.0 in
    let place : one.target ≡ target = eqb-true one.target target parts.1 in
    let number : one.window ≡ window = eqb-true one.window window on in
    let beside : excludes kind one.kind ≡ false =
    sym (rw (eq-eqb window one.window (sym number), eq-eqb target one.target (sym place)) refl) ∙ free in
    let same : one.kind ≡ kind = same_kind kind one.kind beside in
    rw (← holder, ← place, ← number, ← same) refl

-- a lock of the rank's own at the target that does not exclude it is the same lock
among : (window target rank : ℕ) (kind : Lock) (held : List Held) → AllOn window held →
    list_any (do_clash (lock window target kind rank)) held ≡ false → list_any (is_held_by rank target) held ≡ true →
    (test : Held → Bool) → test (lock window target kind rank) ≡ true → list_any test held ≡ true
among window target rank kind [] on free own test passes = absurd (let wrong : false ≡ true = own in cc)
among window target rank kind (one ∷ held) on free own test passes =
    let here = or_parts (not (eqb one.window window)) (list_any (λ (one : Held). not (eqb one.window window)) held) on
    in
    let apart = or_parts (do_clash (lock window target kind rank) one)
    (list_any (do_clash (lock window target kind rank)) held) free in
    ⊎_elim
    (λ first. or_left (test one) (list_any test held)
    (ap test (is_the_lock one window target rank kind (not-false (eqb one.window window) here.0) apart.0 first)
    ∙ passes))
    (λ later. or_right (test one) (list_any test held)
    (among window target rank kind held here.1 apart.1 later test passes))
    (or_cases (is_held_by rank target one) (list_any (is_held_by rank target) held) own)

-- the rank holds the lock already
pub already : (window target rank : ℕ) (kind : Lock) (held : List Held) → AllOn window held →
    list_any (do_clash (lock window target kind rank)) held ≡ false → list_any (is_held_by rank target) held ≡ true →
    HasSameLocks held (held ++ lock window target kind rank ∷ [])
already window target rank kind held on free own test =
    sym (any_more test held (lock window target kind rank)
    ∙ no_more (list_any test held) (test (lock window target kind rank))
    (among window target rank kind held on free own test))
  where
    no_more : (a b : Bool) → (b ≡ true → a ≡ true) → (a || b) ≡ a
    no_more true b so = refl
    no_more false true so = sym (so refl)
    no_more false false so = refl

-- ---- a lock goes

pub none_goes : (window target rank : ℕ) (held : List Held) → list_any (is_held_by rank target) held ≡ false →
    HasSameLocks held (kept rank window target held)
none_goes window target rank [] none test = refl
none_goes window target rank (one ∷ held) none test =
    let parts = or_parts (is_held_by rank target one) (list_any (is_held_by rank target) held) none in
    let stays : not (is_given_back rank window (Some (pos target)) one) ≡ true =
    not_its (eqb one.holder rank) (eqb one.window window) (eqb one.target target) parts.0 in
    rw stays (ap (λ b. test one || b) (none_goes window target rank held parts.1 test))
  where
    not_its : (a b c : Bool) → (a && c) ≡ false → not ((a && b) && c) ≡ true
    not_its true true true e = cc
    not_its true true false e = refl
    not_its true false c e = refl
    not_its false b c e = refl

-- no target is both at or behind one and before it
none_between : (first target : ℕ) → (leb first target && ltb target first) ≡ false
none_between first target = ⊎_elim
    (λ before. ap (λ b. b && ltb target first) (lt-leb first target before))
    (λ behind. and_right (leb first target) (ltb target first) (le-ltb target first behind))
    (cases_lt target first)

pub left_none : (rank window first : ℕ) (held : List Held) → HasSameLocks held
    (left_within rank window first first held)
left_none rank window first held test = sym (
    any_filter test (λ (one : Held). not ((eqb one.holder rank && eqb one.window window)
    && (leb first one.target && ltb one.target first))) held
    ∙ any_alike _ test (λ one. rw (none_between first one.target)
    (stays (eqb one.holder rank && eqb one.window window) (test one))) held)
  where
    stays : (g z : Bool) → (not (g && false) && z) ≡ z
    stays true z = refl
    stays false z = refl

up_to : (a b : ℕ) → ltb a (b + 1) ≡ (ltb a b || eqb a b)
up_to a b = ⊎_elim
    (λ same. rw (lt-ltb a (b + 1) (omega arith), eq-eqb a b same) (sym (always (ltb a b))))
    (λ apart. ⊎_elim
    (λ less. rw (lt-ltb a (b + 1) (omega arith), lt-ltb a b less) refl)
    (λ more. rw (le-ltb a (b + 1) (omega arith), le-ltb a b (omega arith), ne_eqb a b (λ same. absurd (omega arith)))
    refl)
    apart)
    (cases_order a b)
  where
    always : (x : Bool) → (x || true) ≡ true
    always true = refl
    always false = refl

-- the targets from the first up to and with one
up_from : (first target at : ℕ) → first ≤ target →
    (leb first at && ltb at (target + 1)) ≡ ((leb first at && ltb at target) || eqb at target)
up_from first target at low = ⊎_elim
    (λ before. rw (lt-leb first at before, ne_eqb at target (λ same. absurd (omega arith))) refl)
    (λ behind. rw (le-leb first at behind, up_to at target) refl)
    (cases_lt at first)

pub left_more : (rank window first target : ℕ) (held before after : List Held) → first ≤ target →
    HasSameLocks before (left_within rank window first target held) →
    HasSameLocks after (kept rank window target before) → HasSameLocks after
    (left_within rank window first (target + 1) held)
left_more rank window first target held before after low below more test =
    let below_it : Held → Bool = λ (one : Held). not
    ((eqb one.holder rank && eqb one.window window) && (leb first one.target && ltb one.target target)) in
    let past_it : Held → Bool = λ (one : Held). not ((eqb one.holder rank && eqb one.window window)
    && (leb first one.target && ltb one.target (target + 1))) in
    let at_it : Held → Bool = λ (one : Held). not (is_given_back rank window (Some (pos target)) one) in
    more test ∙ (any_filter test at_it before
    ∙ (below (λ one. at_it one && test one) ∙ (any_filter (λ one. at_it one && test one) below_it held
    ∙ (any_alike (λ one. below_it one && (at_it one && test one)) (λ one. past_it one && test one)
    (λ one. both (eqb one.holder rank && eqb one.window window) (leb first one.target && ltb one.target target)
    (eqb one.target target) (leb first one.target && ltb one.target (target + 1)) (test one)
    (up_from first target one.target low)) held
    ∙ sym (any_filter test past_it held)))))
  where
    both : (g l e m z : Bool) → m ≡ (l || e) → (not (g && l) && (not (g && e) && z)) ≡ (not (g && m) && z)
    both true true e m z is = rw is refl
    both true false e m z is = rw is refl
    both false l e m z is = refl

left_of_all : (ranks rank window : ℕ) (held : List Held) → AtRanks ranks held →
    left_within rank window 0 ranks held ≡ left_by rank window None held
left_of_all ranks rank window [] at = refl
left_of_all ranks rank window (one ∷ held) at =
    let parts = or_parts (leb ranks one.target) (list_any (λ (one : Held). leb ranks one.target) held) at in
    rw (
      leb-zero one.target,
      lt-ltb one.target ranks (leb-false ranks one.target parts.0),
      left_of_all ranks rank window held parts.1,
    ) refl

only_at : (target at : ℕ) → (leb target at && ltb at (target + 1)) ≡ eqb at target
only_at target at = up_from target target at (omega arith) ∙ ap (λ b. b || eqb at target) (none_between target at)

-- what is left, once the ranks of a reach have given back
pub left_reached : (ranks rank window : ℕ) (target : Option ℤ) (reach : Reach) (held : List Held) →
    Reaches ranks target reach → AtRanks ranks held →
    left_within rank window reach.first reach.end held ≡ left_by rank window target held
left_reached ranks rank window None reach held is at = rw (is.first, is.end) (left_of_all ranks rank window held at)
left_reached ranks rank window (Some target) reach held is at =
    rw (is.first, is.end) (filter_alike _ _
    (λ (one : Held). ap (λ b. not ((eqb one.holder rank && eqb one.window window) && b))
    (only_at (natural target) one.target)) held)
