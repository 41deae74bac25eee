-- One slot more of a plan.
use Rattle.std.proofs.Common.{◌≡◌, ℕ, zero, suc, ◌+◌, ◌-◌, ◌<◌, ◌≤◌, Bool, true, false, ◌||◌, cond, refl, ap, sym}
use Rattle.std.proofs.Common.{◌∙◌, arith, Option, Some, None}
use Rattle.std.specs.List.{fold, list_any}
use Rattle.call_rules.specs.Pieces.{numbers_from}
use Rattle.kept_rows.specs.Gifts.{Front}
use Rattle.entry_gains.specs.Given.{is_slot}
use Rattle.entry_gains.specs.Kept.{gained_at, gained_below, has_slot_below, IsFilledBelow}
use Rattle.entry_gains.specs.Plans.{plan_slot}
use Rattle.entry_gains.specs.Slots.{joined, slot_eq}
use Rattle.entry_gains.specs.declared.plans.Plan.{Plan}
use Rattle.entry_gains.specs.declared.slots.Slot.{Slot}
use Rattle.entry_gains.proofs.Joined.{joined_assoc, joined_none, joined_same}
use Rattle.entry_gains.proofs.SlotLaws.{slot_to}

fold_last : {X : Type 0} (f : X → ℕ → X) (x : X) (first count : ℕ) →
    fold f x (numbers_from first (count + 1)) ≡ f (fold f x (numbers_from first count)) (first + count)
fold_last f x first zero =
    let e : first + 0 ≡ first = omega arith in
    ap (f x) (sym e)
fold_last f x first (suc count) =
    let e : suc count + 1 ≡ suc (count + 1) = omega arith in
    let there : first + 1 + count ≡ first + suc count = omega arith in
    ap (λ n. fold f x (numbers_from first n)) e
    ∙ (fold_last f (f x first) (first + 1) count ∙ ap (f (fold f (f x first) (numbers_from (first + 1) count))) there)

pub fold_to : {X : Type 0} (f : X → ℕ → X) (x : X) (count : ℕ) →
    fold f x (numbers_from 0 (count + 1)) ≡ f (fold f x (numbers_from 0 count)) count
fold_to f x count =
    let e : 0 + count ≡ count = omega arith in
    fold_last f x 0 count ∙ ap (f (fold f x (numbers_from 0 count))) e

any_last : (test : ℕ → Bool) (first count : ℕ) →
    list_any test (numbers_from first (count + 1)) ≡ (list_any test (numbers_from first count) || test (first + count))
any_last test first zero =
    let e : first + 0 ≡ first = omega arith in
    or_false (test first) ∙ ap test (sym e)
  where
    or_false : (b : Bool) → (b || false) ≡ b
    or_false true = refl
    or_false false = refl
any_last test first (suc count) =
    let e : suc count + 1 ≡ suc (count + 1) = omega arith in
    let there : first + 1 + count ≡ first + suc count = omega arith in
    ap (λ n. list_any test (numbers_from first n)) e
    ∙ (ap (λ b. test first || b) (any_last test (first + 1) count
    ∙ ap (λ n. list_any test (numbers_from (first + 1) count) || test n) there)
    ∙ or_assoc (test first) (list_any test (numbers_from (first + 1) count)) (test (first + suc count)))
  where
    or_assoc : (a b c : Bool) → (a || (b || c)) ≡ ((a || b) || c)
    or_assoc true b c = refl
    or_assoc false b c = refl

pub any_to : (test : ℕ → Bool) (count : ℕ) →
    list_any test (numbers_from 0 (count + 1)) ≡ (list_any test (numbers_from 0 count) || test count)
any_to test count =
    let e : 0 + count ≡ count = omega arith in
    any_last test 0 count ∙ ap (λ n. list_any test (numbers_from 0 count) || test n) e

pub filled_some : (before middle after : Slot → Option Front) (plan : Plan) (front : Front) (at : ℕ) (slot : Slot) →
    IsFilledBelow at plan front before middle → plan_slot plan at ≡ Some slot →
    ((other : Slot) → after other ≡ cond (slot_eq slot other) (joined (middle slot) (Some front)) (middle other)) →
    IsFilledBelow (at + 1) plan front before after
unfolding has_slot_below
filled_some before middle after plan front at slot below here put other =
    put other ∙ (of (slot_eq slot other) refl
    ∙ ap (λ b. joined (before other) (cond b (Some front) None))
    (sym (any_to (λ at. is_slot other (plan_slot plan at)) at
    ∙ ap (λ o. has_slot_below at plan other || is_slot other o) here)))
  where
    full : (x : Option Front) (b : Bool) →
        joined (joined x (cond b (Some front) None)) (Some front) ≡ joined x (cond (b || true) (Some front) None)
    full x true = joined_assoc x (Some front) (Some front) ∙ ap (joined x) (joined_same (Some front))
    full x false = ap (λ y. joined y (Some front)) (joined_none x)

    or_no : (b : Bool) → b ≡ (b || false)
    or_no true = refl
    or_no false = refl

    of : (same : Bool) → slot_eq slot other ≡ same →
        cond same (joined (middle slot) (Some front)) (middle other)
        ≡ joined (before other) (cond (has_slot_below at plan other || same) (Some front) None)
    of true is =
        let e : slot ≡ other = slot_to slot other is in
        ap (λ one. joined (middle one) (Some front)) e ∙ (ap (λ x. joined x (Some front)) (below other)
        ∙ full (before other) (has_slot_below at plan other))
    of false is = below other ∙ ap (λ b. joined (before other) (cond b (Some front) None))
        (or_no (has_slot_below at plan other))

pub filled_none : (before after : Slot → Option Front) (plan : Plan) (front : Front) (at : ℕ) →
    IsFilledBelow at plan front before after → plan_slot plan at ≡ None → IsFilledBelow (at + 1) plan front before after
unfolding has_slot_below
filled_none before after plan front at below here other =
    below other ∙ ap (λ b. joined (before other) (cond b (Some front) None)) (or_no (has_slot_below at plan other)
    ∙ sym (any_to (λ at. is_slot other (plan_slot plan at)) at
    ∙ ap (λ o. has_slot_below at plan other || is_slot other o) here))
  where
    or_no : (b : Bool) → b ≡ (b || false)
    or_no true = refl
    or_no false = refl

-- no index from the first on has a slot
pub has_slot_to : (plan : Plan) (slot : Slot) (first count : ℕ) →
    ((at : ℕ) → first ≤ at → at < first + count → plan_slot plan at ≡ None) →
    has_slot_below (first + count) plan slot ≡ has_slot_below first plan slot
unfolding has_slot_below
has_slot_to plan slot first zero none =
    let e : first + 0 ≡ first = omega arith in
    ap (λ n. has_slot_below n plan slot) e
has_slot_to plan slot first (suc count) none =
    let e : first + suc count ≡ first + count + 1 = omega arith in
    let here : plan_slot plan (first + count) ≡ None = none (first + count) (omega arith) (omega arith) in
    ap (λ n. has_slot_below n plan slot) e
    ∙ (any_to (λ at. is_slot slot (plan_slot plan at)) (first + count)
    ∙ (ap (λ o. has_slot_below (first + count) plan slot || is_slot slot o) here
    ∙ (or_no (has_slot_below (first + count) plan slot)
    ∙ has_slot_to plan slot first count (λ at from below. none at from (omega arith)))))
  where
    or_no : (b : Bool) → (b || false) ≡ b
    or_no true = refl
    or_no false = refl

-- what is filled up to the end of the plan is filled at all indices
pub filled_whole : (before after : Slot → Option Front) (plan : Plan) (front : Front) (end : ℕ) → end ≤ 32 →
    ((at : ℕ) → end ≤ at → at < 32 → plan_slot plan at ≡ None) →
    IsFilledBelow end plan front before after → IsFilledBelow 32 plan front before after
filled_whole before after plan front end most none filled slot =
    let e : end + (32 - end) ≡ 32 = omega arith in
    filled slot ∙ ap (λ b. joined (before slot) (cond b (Some front) None))
    (sym (has_slot_to plan slot end (32 - end) (λ at from below. none at from (omega arith)))
    ∙ ap (λ n. has_slot_below n plan slot) e)

pub gained_next : (kept : Slot → Option Front) (slot_at : ℕ → Option Slot) (at : ℕ) →
    gained_below (at + 1) kept slot_at ≡ joined (gained_below at kept slot_at) (gained_at kept (slot_at at))
gained_next kept slot_at at = fold_to (λ all at. joined all (gained_at kept (slot_at at))) None at

-- no index from the first on has a slot
pub gained_to : (kept : Slot → Option Front) (slot_at : ℕ → Option Slot) (first count : ℕ) →
    ((at : ℕ) → first ≤ at → at < first + count → slot_at at ≡ None) →
    gained_below (first + count) kept slot_at ≡ gained_below first kept slot_at
gained_to kept slot_at first zero none =
    let e : first + 0 ≡ first = omega arith in
    ap (λ n. gained_below n kept slot_at) e
gained_to kept slot_at first (suc count) none =
    let e : first + suc count ≡ first + count + 1 = omega arith in
    let here : slot_at (first + count) ≡ None = none (first + count) (omega arith) (omega arith) in
    ap (λ n. gained_below n kept slot_at) e
    ∙ (gained_next kept slot_at (first + count)
    ∙ (ap (λ o. joined (gained_below (first + count) kept slot_at) (gained_at kept o)) here
    ∙ (joined_none (gained_below (first + count) kept slot_at)
    ∙ gained_to kept slot_at first count (λ at from below. none at from (omega arith)))))

-- what the slots up to the end give is what all of them give
pub gained_whole : (kept : Slot → Option Front) (slot_at : ℕ → Option Slot) (end : ℕ) → end ≤ 32 →
    ((at : ℕ) → end ≤ at → at < 32 → slot_at at ≡ None) →
    gained_below end kept slot_at ≡ gained_below 32 kept slot_at
gained_whole kept slot_at end most none =
    let e : end + (32 - end) ≡ 32 = omega arith in
    sym (gained_to kept slot_at end (32 - end) (λ at from below. none at from (omega arith)))
    ∙ ap (λ n. gained_below n kept slot_at) e

pub gained_alike : (f g : Slot → Option Front) → ((slot : Slot) → f slot ≡ g slot) → (one : Option Slot) →
    gained_at f one ≡ gained_at g one
gained_alike f g same None = refl
gained_alike f g same (Some slot) = same slot
