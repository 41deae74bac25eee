-- The locks that an unlock gives back, by their slots.
use Rattle.std.proofs.Common.{◌≡◌, cond, ℕ, ◌<◌, ◌==◌, Bool, true, false, not, ◌&&◌, ◌||◌, List, [], ◌∷◌, refl, ap}
use Rattle.std.proofs.Common.{sym, ◌∙◌, arith, Option, Some, None, ℤ}
use Rattle.std.proofs.lemmas.Bool.{true≢false, eqb-true, eq-eqb, lt-ltb, ltb-true}
use Rattle.std.specs.List.{list_any}
use Rattle.list_laws.proofs.Tests.{any_alike, any_map, any_filter}
use Rattle.list_laws.proofs.Truths.{both_left, or_first, or_second}
use Rattle.rma_types.specs.declared.calls.Lock.{Lock}
use Rattle.rma_types.specs.declared.calls.Lock.TheVariants.{Shared, Exclusive}
use Rattle.call_rules.specs.Ranks.{natural}
use Rattle.call_rules.proofs.NumbersFrom.{some_number}
use Rattle.board_rules.specs.Edges.{locks_given_back}
use Rattle.board_rules.specs.Locks.{Held, do_clash, held_here, held_locks, is_exclusive, is_given_back, locks_asked}
use Rattle.board_rules.specs.Locks.{targets_of}
use Rattle.board_rules.specs.Questions.{Question}
use Rattle.entry_gains.specs.Given.{held_kind, is_held_at, is_reached}
use Rattle.entry_gains.specs.Plans.{unlock_slot_of}
use Rattle.entry_gains.specs.declared.slots.Slot.{Slot}
use Rattle.entry_gains.specs.declared.slots.Slot.TheVariants.{Unlock}
use Rattle.entry_gains.proofs.SlotLaws.{and_both, number_case, or_either}

-- ---- locks

pub implied : {X : Type 0} {p q : X → Bool} (xs : List X) → ((x : X) → p x ≡ true → q x ≡ true) →
    list_any p xs ≡ true → list_any q xs ≡ true
implied [] so e = e
implied {X} {p} {q} (x ∷ xs) so e =
    or_either (p x) (list_any p xs) (λ here. or_first (q x) (list_any q xs) (so x here))
    (λ later. or_second (q x) (list_any q xs) (implied xs so later)) e

pub target_case : {P : Type 0} (test : ℕ → Bool) (ranks : ℕ) (target : Option ℤ) →
    ((at : ℕ) → is_reached ranks target at ≡ true → test at ≡ true → P) →
    list_any test (targets_of ranks target) ≡ true → P
target_case test ranks None case e = number_case test 0 ranks (λ at low high. case at (lt-ltb at ranks (omega arith))) e
target_case test ranks (Some target) case e =
    or_either (test (natural target)) false (case (natural target) (eq-eqb (natural target) (natural target) refl))
    (λ none. absurd (true≢false (sym none))) e

pub some_target : (test : ℕ → Bool) (ranks : ℕ) (target : Option ℤ) (at : ℕ) → is_reached ranks target at ≡ true →
    test at ≡ true → list_any test (targets_of ranks target) ≡ true
some_target test ranks None at reached found =
    let below : at < ranks = ltb-true at ranks reached in
    some_number test 0 ranks at (omega arith) (omega arith) found
some_target test ranks (Some target) at reached found =
    or_first (test (natural target)) false (ap test (sym (eqb-true at (natural target) reached)) ∙ found)

-- the lock that is asked for at a target
abbrev pub asked_at : Question → Lock → ℕ → Held
asked_at q kind target = record { holder = q.rank; window = q.window; target = target; kind = kind }

-- a held lock that an unlock gives back and that excludes one of those that are asked for
abbrev pub is_met : Question → Option ℤ → Question → Lock → Option ℤ → Held → Bool
is_met a unlocked b kind locked one =
    one.window == a.window && (is_given_back a.rank a.window unlocked one && list_any
    (λ target. do_clash one (asked_at b kind target)) (targets_of b.ranks locked))

pub locks_met : (a : Question) (unlocked : Option ℤ) (b : Question) (kind : Lock) (locked : Option ℤ) →
    list_any (λ one. list_any (do_clash one) (locks_asked b kind locked)) (locks_given_back a unlocked)
    ≡ list_any (is_met a unlocked b kind locked) (held_locks a.ranks a.entries)
locks_met a unlocked b kind locked =
    any_filter (λ one. list_any (do_clash one) (locks_asked b kind locked)) (is_given_back a.rank a.window unlocked)
    (held_here a)
    ∙ (any_filter (λ one. is_given_back a.rank a.window unlocked one && list_any (do_clash one)
    (locks_asked b kind locked)) (λ one. one.window == a.window) (held_locks a.ranks a.entries)
    ∙ any_alike (λ one. one.window == a.window && (is_given_back a.rank a.window unlocked one && list_any
    (do_clash one) (locks_asked b kind locked))) (is_met a unlocked b kind locked)
    (λ one. ap (λ any. one.window == a.window && (is_given_back a.rank a.window unlocked one && any))
    (any_map (do_clash one) (asked_at b kind) (targets_of b.ranks locked)))
    (held_locks a.ranks a.entries))

-- a lock that is held at a target, and an exclusive one
pub some_held : (held : List Held) (rank window target : ℕ) → list_any (is_held_at rank window target) held ≡ true →
    unlock_slot_of window target false (held_kind held rank window target) ≡ Some (Unlock window target false)
unfolding held_kind
some_held held rank window target e =
    at (list_any (λ (one : Held). is_held_at rank window target one && is_exclusive one.kind) held)
  where
    at : (exclusive : Bool) → unlock_slot_of window target false (cond exclusive (Some Exclusive)
        (cond (list_any (is_held_at rank window target) held) (Some Shared) None)) ≡ Some (Unlock window target false)
    at true = refl
    at false = rw e refl

pub exclusive_held : (held : List Held) (rank window target : ℕ) →
    list_any (λ (one : Held). is_held_at rank window target one && is_exclusive one.kind) held ≡ true →
    unlock_slot_of window target true (held_kind held rank window target) ≡ Some (Unlock window target true)
unfolding held_kind
exclusive_held held rank window target e = rw e refl

pub held_case : {P : Type 0} (held : List Held) (rank window target : ℕ) (exclusive : Bool) (slot : Slot) →
    unlock_slot_of window target exclusive (held_kind held rank window target) ≡ Some slot →
    (slot ≡ Unlock window target exclusive →
    list_any (λ (one : Held). is_held_at rank window target one && (not exclusive || is_exclusive one.kind)) held
    ≡ true → P) → P
unfolding held_kind
held_case {P} held rank window target exclusive slot e case =
    at exclusive (list_any (λ (one : Held). is_held_at rank window target one && is_exclusive one.kind) held)
    (list_any (is_held_at rank window target) held) refl refl e case
  where
    weaker : list_any (λ (one : Held). is_held_at rank window target one && is_exclusive one.kind) held ≡ true →
        list_any (λ (one : Held). is_held_at rank window target one && true) held ≡ true
    weaker is = implied held (λ one both. and_both _ _ (both_left _ _ both) refl) is

    at : (exclusive x y : Bool) → list_any
        (λ (one : Held). is_held_at rank window target one && is_exclusive one.kind) held ≡ x →
        list_any (is_held_at rank window target) held ≡ y →
        unlock_slot_of window target exclusive (cond x (Some Exclusive) (cond y (Some Shared) None)) ≡ Some slot →
        (slot ≡ Unlock window target exclusive →
        list_any (λ (one : Held). is_held_at rank window target one &&
        (not exclusive || is_exclusive one.kind)) held ≡ true → P) → P
    at true true y here other is case = case (cc) here
    at false true y here other is case = case (cc) (weaker here)
    at true false true here other is case = cc
    at false false true here other is case = case (cc) (implied held (λ one both. and_both _ _ both refl) other)
    at exclusive false false here other is case = cc
