-- The locks at one target more.
use Rattle.std.proofs.Common.{◌≡◌, ℕ, ◌+◌, ◌<◌, ◌==◌, Bool, true, false, ◌&&◌, cond, ap, sym, ◌∙◌, arith, ⊎_elim}
use Rattle.std.proofs.lemmas.Bool.{cases_eq, true≢false, eq-eqb, lt-ltb, le-ltb, ltb-true}
use Rattle.std.proofs.lemmas.Bool.Decides.{eqb_tells}
use Rattle.std.specs.Prelude.{nat_lt}
use Rattle.list_laws.proofs.Truths.{both_right, same_truth}
use Rattle.entry_gains.specs.Tables.{is_reached_below, is_within, lock_eq, lock_key}
use Rattle.entry_gains.specs.declared.deeds.Reach.{Reach}
use Rattle.entry_gains.specs.declared.tables.LockKey.{LockKey}
use Rattle.entry_gains.specs.declared.tables.SideKey.{SideKey}

-- none below 0
pub reached_none : (side : SideKey) (reach : Reach) (key : LockKey) → is_reached_below 0 side reach key ≡ false
unfolding is_reached_below
reached_none side reach key = same_truth _ false (λ e. absurd (past key.target (both_right _ _ e)))
    (λ e. absurd (true≢false (sym e)))
  where
    past : (n : ℕ) → nat_lt n 0 ≡ true → ⊥
    past n e = let below : n < 0 = ltb-true n 0 e in omega arith

one_here : {X : Type 0} (change : X → X) (first middle after : X) (a b w : Bool) →
    middle ≡ cond (a && b && w && false) (change first) first →
    after ≡ cond (a && (b && true) && w) (change middle) middle →
    after ≡ cond (a && b && w && true) (change first) first
one_here change first middle after true true true e f = f ∙ ap change e
one_here change first middle after true true false e f = f ∙ e
one_here change first middle after true false w e f = f ∙ e
one_here change first middle after false b w e f = f ∙ e

one_there : {X : Type 0} (change : X → X) (first middle after : X) (a b v : Bool) (all : X) →
    middle ≡ all → after ≡ cond (a && (b && false) && v) (change middle) middle → after ≡ all
one_there change first middle after true true v all e f = f ∙ e
one_there change first middle after true false v all e f = f ∙ e
one_there change first middle after false b v all e f = f ∙ e

-- what a change at each target in turn does to one key
pub reached_more : {X : Type 0} (change : X →
    X) (first middle after : X) (side : SideKey) (reach : Reach) (at : ℕ) (key : LockKey) →
    middle ≡ cond (is_reached_below at side reach key) (change first) first →
    after ≡ cond (lock_eq (lock_key side at) key && is_within reach at) (change middle) middle →
    after ≡ cond (is_reached_below (at + 1) side reach key) (change first) first
unfolding is_reached_below
reached_more {X} change first middle after side reach at key before step = ⊎_elim here there (cases_eq key.target at)
  where
    here : key.target ≡ at → after ≡ cond
        (side.window == key.window && side.rank == key.rank && is_within reach key.target && nat_lt key.target
        (at + 1)) (change first) first
    here e =
        let past : nat_lt key.target at ≡ false = le-ltb key.target at (omega arith) in
        let within : nat_lt key.target (at + 1) ≡ true = lt-ltb key.target (at + 1) (omega arith) in
        let same : (at == key.target) ≡ true = eq-eqb at key.target (sym e) in
        let before_here : middle ≡ cond (side.window == key.window && side.rank == key.rank && is_within reach
        key.target && false) (change first) first =
        before ∙ ap (λ b. cond (side.window == key.window && side.rank == key.rank && is_within reach key.target && b)
        (change first) first) past in
        let step_here : after ≡ cond (side.window == key.window &&
        (side.rank == key.rank && true) && is_within reach key.target) (change middle) middle =
        step ∙ (ap (λ b. cond (side.window == key.window && (side.rank == key.rank && b) && is_within reach at)
        (change middle) middle) same
        ∙ ap (λ n. cond (side.window == key.window && (side.rank == key.rank && true) && is_within reach n)
        (change middle) middle) (sym e)) in
        one_here change first middle after (side.window == key.window) (side.rank == key.rank)
        (is_within reach key.target) before_here step_here
        ∙ ap (λ b. cond (side.window == key.window && side.rank == key.rank && is_within reach key.target && b)
        (change first) first) (sym within)

    there : (key.target ≡ at → ⊥) → after
        ≡ cond (side.window == key.window && side.rank == key.rank && is_within reach key.target && nat_lt key.target
        (at + 1)) (change first) first
    there ne =
        let apart : (at == key.target) ≡ false =
        ⊎_elim (λ e. absurd (ne (sym e.1))) (λ e. e.0) (eqb_tells at key.target) in
        let alike : nat_lt key.target at ≡ nat_lt key.target (at + 1) =
        same_truth (nat_lt key.target at) (nat_lt key.target (at + 1)) (λ e. let below : key.target < at =
        ltb-true key.target at e in lt-ltb key.target (at + 1) (omega arith))
        (λ e. let below : key.target < at + 1 = ltb-true key.target (at + 1) e in lt-ltb key.target at (omega arith)) in
        one_there change first middle after (side.window == key.window) (side.rank == key.rank) (is_within reach at)
        (cond (side.window == key.window && side.rank == key.rank && is_within reach key.target && nat_lt key.target
        (at + 1)) (change first) first)
        (before ∙ ap (λ b. cond (side.window == key.window && side.rank == key.rank && is_within reach key.target && b)
        (change first) first) alike)
        (step ∙ ap (λ b. cond (side.window == key.window && (side.rank == key.rank && b) && is_within reach at)
        (change middle) middle) apart)
