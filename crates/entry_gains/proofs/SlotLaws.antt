-- Slots are equal where the test of equality says so; tests over the first numbers.
use Rattle.std.proofs.Common.{◌≡◌, ℕ, zero, suc, ◌+◌, ◌<◌, ◌≤◌, Bool, true, false, ◌&&◌, ◌||◌, List, [], ◌∷◌, refl, ap}
use Rattle.std.proofs.Common.{sym, arith, Option, Some, None}
use Rattle.std.proofs.lemmas.Bool.{true≢false, eqb-true, eq-eqb}
use Rattle.std.specs.Bool.{beq}
use Rattle.std.proofs.Math.Dec.{eqb}
use Rattle.std.specs.List.{list_any}
use Rattle.list_laws.proofs.Truths.{or_first, bool_same, bool_self}
use Rattle.call_rules.specs.Pieces.{numbers_from}
use Rattle.call_rules.specs.Ranks.{is_member}
use Rattle.entry_gains.specs.Given.{is_slot}
use Rattle.entry_gains.specs.Plans.{slot_if}
use Rattle.entry_gains.specs.Slots.{meeting_eq, slot_eq}
use Rattle.entry_gains.specs.declared.slots.Meeting.{Meeting}
use Rattle.entry_gains.specs.declared.slots.Meeting.TheVariants.{Creation, Freeing, Fence, Barrier}
use Rattle.entry_gains.specs.declared.slots.Slot.{Slot}
use Rattle.entry_gains.specs.declared.slots.Slot.TheVariants.{Round, Post, Complete, Unlock}

-- ---- tests

pub and_both : (a b : Bool) → a ≡ true → b ≡ true → (a && b) ≡ true
and_both true b e f = f
and_both false b e f = e

pub or_either : (a b : Bool) {P : Type 0} → (a ≡ true → P) → (b ≡ true → P) → (a || b) ≡ true → P
or_either true b left right e = left refl
or_either false b left right e = right e

-- some element passes
pub any_here : {X : Type 0} (test : X → Bool) (x : X) (xs : List X) → test x ≡ true → list_any test (x ∷ xs) ≡ true
any_here test x xs e = or_first (test x) (list_any test xs) e

-- what an element that passes gives
pub any_case : {X P : Type 0} (test : X → Bool) (xs : List X) → ((x : X) → test x ≡ true → P) →
    list_any test xs ≡ true → P
any_case test [] case e = absurd (true≢false (sym e))
any_case test (x ∷ xs) case e = or_either (test x) (list_any test xs) (case x) (any_case test xs case) e

pub number_case : {P : Type 0} (test : ℕ → Bool) (first count : ℕ) →
    ((k : ℕ) → first ≤ k → k < first + count → test k ≡ true → P) → list_any test (numbers_from first count) ≡ true → P
number_case test first zero case e = absurd (true≢false (sym e))
number_case test first (suc count) case e =
    or_either (test first) (list_any test (numbers_from (first + 1) count)) (case first (omega arith) (omega arith))
    (number_case test (first + 1) count (λ k low high. case k (omega arith) (omega arith))) e

-- the member that a test of membership finds
pub member_case : {P : Type 0} (rank : ℕ) (group : List ℕ) → is_member rank group ≡ true →
    (is_member rank group ≡ true → P) → P
member_case rank group e case = case e

-- ---- slots

pub meeting_to : (a b : Meeting) → meeting_eq a b ≡ true → a ≡ b
meeting_to Creation Creation e = refl
meeting_to Freeing Freeing e = refl
meeting_to Fence Fence e = refl
meeting_to Barrier Barrier e = refl
meeting_to a b e = absurd (true≢false (sym e))

pub meeting_same : (a : Meeting) → meeting_eq a a ≡ true
meeting_same Creation = refl
meeting_same Freeing = refl
meeting_same Fence = refl
meeting_same Barrier = refl

pub slot_same : (a : Slot) → slot_eq a a ≡ true
slot_same (Round w m r) = and_both _ _ (eq-eqb w w refl) (and_both _ _ (meeting_same m) (eq-eqb r r refl))
slot_same (Post w f t n) = and_both _ _ (eq-eqb w w refl)
    (and_both _ _ (eq-eqb f f refl) (and_both _ _ (eq-eqb t t refl) (eq-eqb n n refl)))
slot_same (Complete w f t n) = and_both _ _ (eq-eqb w w refl)
    (and_both _ _ (eq-eqb f f refl) (and_both _ _ (eq-eqb t t refl) (eq-eqb n n refl)))
slot_same (Unlock w t e) = and_both _ _ (eq-eqb w w refl) (and_both _ _ (eq-eqb t t refl) (bool_self e))

four_to : (a b c d : Bool) → (a && (b && (c && d))) ≡ true → (a ≡ true) × (b ≡ true) × (c ≡ true) × (d ≡ true)
four_to true true true d e = (refl, refl, refl, e)
four_to true true false d e = absurd (true≢false (sym e))
four_to true false c d e = absurd (true≢false (sym e))
four_to false b c d e = absurd (true≢false (sym e))

three_to : (a b c : Bool) → (a && (b && c)) ≡ true → (a ≡ true) × (b ≡ true) × (c ≡ true)
three_to true true c e = (refl, refl, e)
three_to true false c e = absurd (true≢false (sym e))
three_to false b c e = absurd (true≢false (sym e))

pub slot_to : (a b : Slot) → slot_eq a b ≡ true → a ≡ b
slot_to (Round w m r) (Round v k s) e =
    let each : (eqb w v ≡ true) × (meeting_eq m k ≡ true) × (eqb r s ≡ true) =
    three_to (eqb w v) (meeting_eq m k) (eqb r s) e in
    let a : w ≡ v = eqb-true w v each.0 in
    let b : m ≡ k = meeting_to m k each.1 in
    let c : r ≡ s = eqb-true r s each.2 in
    cc
slot_to (Post w f t n) (Post v g u k) e =
    let each : (eqb w v ≡ true) × (eqb f g ≡ true) × (eqb t u ≡ true) × (eqb n k ≡ true) =
    four_to (eqb w v) (eqb f g) (eqb t u) (eqb n k) e in
    let a : w ≡ v = eqb-true w v each.0 in
    let b : f ≡ g = eqb-true f g each.1 in
    let c : t ≡ u = eqb-true t u each.2 in
    let d : n ≡ k = eqb-true n k each.3 in
    cc
slot_to (Complete w f t n) (Complete v g u k) e =
    let each : (eqb w v ≡ true) × (eqb f g ≡ true) × (eqb t u ≡ true) × (eqb n k ≡ true) =
    four_to (eqb w v) (eqb f g) (eqb t u) (eqb n k) e in
    let a : w ≡ v = eqb-true w v each.0 in
    let b : f ≡ g = eqb-true f g each.1 in
    let c : t ≡ u = eqb-true t u each.2 in
    let d : n ≡ k = eqb-true n k each.3 in
    cc
slot_to (Unlock w t x) (Unlock v u y) e =
    let each : (eqb w v ≡ true) × (eqb t u ≡ true) × (beq x y ≡ true) = three_to (eqb w v) (eqb t u) (beq x y) e in
    let a : w ≡ v = eqb-true w v each.0 in
    let b : t ≡ u = eqb-true t u each.1 in
    let c : x ≡ y = bool_same x y each.2 in
    cc
slot_to a b e = absurd (true≢false (sym e))

-- the slot that a test of slots finds
pub is_slot_to : (slot : Slot) (one : Option Slot) → is_slot slot one ≡ true → one ≡ Some slot
is_slot_to slot None e = absurd (true≢false (sym e))
is_slot_to slot (Some one) e = ap Some (slot_to one slot e)

pub is_slot_of : (slot : Slot) (one : Option Slot) → one ≡ Some slot → is_slot slot one ≡ true
is_slot_of slot one e = rw e (slot_same slot)

-- a slot under a condition
pub if_holds : (holds : Bool) (slot one : Slot) → slot_if holds slot ≡ Some one → (holds ≡ true) × (slot ≡ one)
if_holds true slot one e = (refl, cc)
if_holds false slot one e = cc

pub holds_if : (holds : Bool) (slot : Slot) → holds ≡ true → slot_if holds slot ≡ Some slot
holds_if holds slot e = rw e refl
