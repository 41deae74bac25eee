-- Touches of a memory that tells its cells: the definition's touches, one after another.
use Rattle.std.proofs.Common.{◌≡◌, ℕ, zero, suc, ◌+◌, ◌-◌, ◌/◌, ◌%◌, ◌≤◌, List, [], ◌∷◌, ◌++◌, map, drop, refl}
use Rattle.std.proofs.Common.{sym, ap, ◌∙◌, arith, Option, Some, None, IfSome, IsSomeAnd}
use Rattle.std.specs.Option.{option_map, option_map_or, option_and_then}
use Rattle.rma_record.specs.declared.items.Item.{Item}
use Rattle.rma_record.specs.declared.items.Item.TheVariants.{Touch}
use Rattle.rma_types.specs.declared.accesses.Access.{Access}
use Rattle.rma_types.specs.declared.calls.Call.{Call}
use Rattle.rma_types.specs.declared.scripts.Layout.{Layout}
use Rattle.rma_types.specs.Datatypes.{size_of}
use Rattle.call_rules.specs.declared.cells.Cell.{Cell}
use Rattle.call_rules.specs.declared.elements.Piece.{Piece}
use Rattle.rma_types.specs.declared.actions.Transfer.{Transfer}
use Rattle.rma_types.specs.Actions.{transfer_of}
use Rattle.call_rules.specs.Pieces.{numbers_from, pieces}
use Rattle.call_rules.specs.Ranks.{natural}
use Rattle.call_rules.specs.Touches.{Touched, touch_each, cell_at, cells_after}
use Rattle.call_rules.specs.Transfers.{bytes_of, change_of}
use Rattle.call_rules.proofs.PieceLaws.{place_by}
use Rattle.cell_face.specs.Faces.{Face}
use Rattle.access_steps.specs.Plans.{PlannedTouch, element_count, planned_touches, IsAccessOf}
use Rattle.access_steps.specs.TouchesMade.{MadeTouch, plan_of, item_of, cells_left, SeesEach, TouchesKept, IsTouchEach}
use Rattle.access_steps.proofs.PlanSteps.{quotient}

abbrev plan_by : Transfer → (ℕ → Piece) → ℕ → PlannedTouch
plan_by t place element = record {
  element = element;
  cell = (place element).cell;
  change = change_of t element
      (place element).first_byte;
}

-- one touch, and what the touches after it leave
abbrev with_first : ℕ → PlannedTouch → Cell → Touched → Touched
with_first issue plan seen rest = record {
  cells = rest.cells;
  items = Touch issue plan.element plan.cell seen.place
      seen.bits ∷ rest.items;
}

abbrev left_by : ℕ → List Cell → List MadeTouch → Touched
left_by issue cells touches = record { cells = cells_left cells touches; items = map (item_of issue) touches }

touch_each_is : (t : Transfer) (issue : ℕ) (place : ℕ → Piece) (first n : ℕ) (cells : List Cell)
    (touches : List MadeTouch) →
    map plan_of touches ≡ map (plan_by t place) (numbers_from first n) → SeesEach cells touches →
    touch_each t issue first (map place (numbers_from first n)) cells ≡ left_by issue cells touches
touch_each_is t issue place first zero cells [] e sees = refl
touch_each_is t issue place first zero cells (x ∷ xs) e sees = absurd (cc)
touch_each_is t issue place first (suc n) cells [] e sees = absurd (cc)
touch_each_is t issue place first (suc n) cells (x ∷ xs) e sees =
    let head : x.plan ≡ plan_by t place first = cc in
    let tail : map plan_of xs ≡ map (plan_by t place) (numbers_from (first + 1) n) = cc in
    let rest = touch_each_is t issue place (first + 1) n (cells_after cells x.plan.cell x.plan.change) xs tail sees.1 in
    ap (λ (plan : PlannedTouch). with_first issue plan (cell_at cells plan.cell)
    (touch_each t issue (first + 1) (map place (numbers_from (first + 1) n)) (cells_after cells plan.cell plan.change)))
    (sym head)
    ∙ (ap (with_first issue x.plan (cell_at cells x.plan.cell)) rest
    ∙ ap (λ (seen : Cell). with_first issue x.plan seen
    (left_by issue (cells_after cells x.plan.cell x.plan.change) xs)) (sym sees.0))

drop-numbers_from : {X : Type 0} (f : ℕ → X) (k n first from m : ℕ) → first + k ≡ from → k + m ≡ n →
    drop k (map f (numbers_from first n)) ≡ map f (numbers_from from m)
drop-numbers_from f zero n first from m e s =
    let same : first ≡ from = omega arith in
    let all : n ≡ m = omega arith in
    ap (λ (k : ℕ). map f (numbers_from k n)) same ∙ ap (λ (k : ℕ). map f (numbers_from from k)) all
drop-numbers_from f (suc k) zero first from m e s = absurd (omega arith)
drop-numbers_from f (suc k) (suc n) first from m e s = drop-numbers_from f k n (first + 1) from m (omega arith)
    (omega arith)

abbrev count_by : Option Transfer → ℕ
count_by o = option_map_or (λ (t : Transfer). natural t.count) o 0

abbrev pub planned_by : Option Transfer → Layout → Access → ℕ → PlannedTouch
planned_by o layout access element = record {
  element = element;
  cell = (place_by o layout access element).cell;
  change = option_and_then (λ (t : Transfer). change_of t element (place_by o layout access element).first_byte) o;
}

told_by : (o : Option Transfer) (told after : Option (List Cell)) (layout : Layout) (access : Access) (issue from : ℕ)
    (kept_before kept_after : List Item) (touches : List MadeTouch) →
    IsSomeAnd o (λ t. (access.kind ≡ t.kind) × (access.len ≡ bytes_of t) × (access.lo % size_of t.dtype ≡ 0)) →
    from ≤ count_by o →
    map plan_of touches ≡ map (planned_by o layout access) (numbers_from from (count_by o - from)) →
    kept_after ≡ kept_before ++ map (item_of issue) touches →
    after ≡ option_map (λ cells. cells_left cells touches) told → IfSome told (λ cells. SeesEach cells touches) →
    IfSome told (λ cells. IfSome o (λ t. IsTouchEach t (drop from (pieces layout access t.dtype)) issue from cells after
    kept_before kept_after))
told_by o None after layout access issue from kept_before kept_after touches a le plans items told sees = tt
told_by None (Some cells) after layout access issue from kept_before kept_after touches a le plans items told sees = tt
told_by (Some t) (Some cells) after layout access issue from kept_before kept_after touches a le plans items told sees =
    let place = place_by (Some t) layout access in
    let count : access.len / size_of t.dtype ≡ natural t.count = ap (λ (n : ℕ). n / size_of t.dtype) a.1
    ∙ quotient t.dtype (natural t.count) in
    let left : drop from (pieces layout access t.dtype) ≡ map place (numbers_from from (natural t.count - from)) =
    drop-numbers_from place from (access.len / size_of t.dtype) 0 from (natural t.count - from) (omega arith)
    (omega arith) in
    let whole : touch_each t issue from (drop from (pieces layout access t.dtype)) cells ≡ left_by issue cells touches =
    ap (λ (ps : List Piece). touch_each t issue from ps cells) left
    ∙ touch_each_is t issue place from (natural t.count - from) cells touches plans sees in
    record {
      cells_after = told ∙ ap (λ (it : Touched). Some it.cells) (sym whole);
      items = items ∙ ap (λ (it : Touched). kept_before ++ it.items) (sym whole);
    }

-- the whole access was touched
pub told_is : (layout : Layout) (access : Access) (call : Call) (issue from : ℕ) (before after : Face)
    (knows : ℕ → Cell → Type 0)
    (kept_before kept_after : List Item) → IsAccessOf call access → from ≤ element_count call →
    TouchesKept before after knows kept_before kept_after issue
    (planned_touches layout access call from (element_count call - from)) →
    IfSome before.told (λ cells. IfSome (transfer_of call)
    (λ t. IsTouchEach t (drop from (pieces layout access t.dtype)) issue from cells after.told kept_before kept_after))
told_is layout access call issue from before after knows kept_before kept_after a le kept =
    told_by (transfer_of call) before.told after.told layout access issue from kept_before kept_after kept.touches a le
    kept.plans kept.items
    kept.made.told kept.made.states

untold_in : {X Y : Type 0} (f : X → Y) (told : Option X) → option_map f told ≡ None → told ≡ None
untold_in f None e = refl
untold_in f (Some x) e = absurd (cc)

-- a memory that tells no cells after touches told none before them
pub untold_first : (before middle : Face) (knows : ℕ → Cell → Type 0) (kept_before kept_after : List Item) (issue : ℕ)
    (planned : List PlannedTouch) →
    TouchesKept before middle knows kept_before kept_after issue planned → middle.told ≡ None → before.told ≡ None
untold_first before middle knows kept_before kept_after issue planned kept none =
    untold_in (λ cells. cells_left cells kept.touches) before.told (sym kept.made.told ∙ none)

-- what is said of told cells holds where there are none
pub of_none : {X : Type 0} (P : X → Type 0) (told : Option X) → told ≡ None → IfSome told P
of_none P None e = tt
of_none P (Some x) e = absurd (cc)

pub of_all : {X : Type 0} (P : X → Type 0) (told : Option X) → ((x : X) → P x) → IfSome told P
of_all P None f = tt
of_all P (Some x) f = f x
