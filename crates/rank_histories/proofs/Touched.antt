-- The touches that a delivery made are those of its access, from the lowest places before it to those after it.
use Rattle.std.proofs.Common.{◌≡◌, ℕ, zero, suc, ◌+◌, ◌≤◌, inl, inr, cond, List, [], ◌∷◌}
use Rattle.std.proofs.Common.{map, Option, Some, None, refl, sym, ◌∙◌, ap, subst, arith, IsSomeAnd}
use Rattle.std.specs.Prelude.{◌==◌, ◌%◌, ◌/◌}
use Rattle.std.specs.List.{AllByRecursion}
use Rattle.std.specs.Option.{option_map_or}
use Rattle.std.proofs.lemmas.Bool.{eq-eqb}
use Rattle.std.proofs.lemmas.Bool.Decides.{eqb_tells}
use Rattle.list_laws.proofs.Each.{each_weaker}
use Rattle.rma_types.specs.declared.accesses.Access.{Access}
use Rattle.rma_types.specs.declared.calls.Call.{Call}
use Rattle.rma_types.specs.declared.scripts.Layout.{Layout}
use Rattle.rma_types.specs.Datatypes.{size_of}
use Rattle.access_steps.proofs.PlanSteps.{quotient}
use Rattle.access_steps.specs.Plans.{PlannedTouch, element_count, planned_touches, IsAccessOf}
use Rattle.access_steps.proofs.ToldTouches.{planned_by}
use Rattle.access_steps.specs.TouchesMade as made
use Rattle.call_rules.specs.declared.elements.Change.{Change}
use Rattle.call_rules.specs.declared.elements.Piece.{Piece}
use Rattle.rma_types.specs.declared.actions.Transfer.{Transfer}
use Rattle.rma_types.specs.Actions.{transfer_of}
use Rattle.call_rules.specs.Pieces.{piece_at, pieces, numbers_from, element_address}
use Rattle.call_rules.specs.Ranks.{natural}
use Rattle.call_rules.specs.Transfers.{bytes_of, change_of}
use Rattle.rank_laws.specs.Deliveries.{AreTouches, place_after}
use Rattle.rank_laws.specs.Fronts.{Lows, AreAtMost}

-- ---- lows that rise on one cell

abbrev raised : Lows → ℕ → ℕ → Lows
raised lows cell place other = cond (other == cell) place (lows other)

raised_rises : (lows : Lows) (cell place : ℕ) → lows cell ≤ place → AreAtMost lows (raised lows cell place)
raised_rises lows cell place low other = elim (eqb_tells other cell) [
  | inl is ↦
      subst (λ b. lows other ≤ cond b place (lows other)) (sym is.0) (subst (λ c. lows c ≤ place) (sym is.1) low)
  | inr apart ↦ subst (λ b. lows other ≤ cond b place (lows other)) (sym apart.0) (omega arith)
]

raised_here : (lows : Lows) (cell place : ℕ) → raised lows cell place cell ≡ place
raised_here lows cell place = ap (λ b. cond b place (lows cell)) (eq-eqb cell cell refl)

raised_most : (lows : Lows) (cell place : ℕ) (after : Lows) → AreAtMost lows after → place ≤ after cell →
    AreAtMost (raised lows cell place) after
raised_most lows cell place after low here other = elim (eqb_tells other cell) [
  | inl is ↦ subst (λ b. cond b place (lows other) ≤ after other) (sym is.0)
      (subst (λ c. place ≤ after c) (sym is.1) here)
  | inr apart ↦ subst (λ b. cond b place (lows other) ≤ after other) (sym apart.0) (low other)
]

raised_below : (lows : Lows) (cell place other later : ℕ) → lows other ≤ later → (other ≡ cell → place ≤ later) →
    raised lows cell place other ≤ later
raised_below lows cell place other later low past = elim (eqb_tells other cell) [
  | inl is ↦ subst (λ b. cond b place (lows other) ≤ later) (sym is.0) (past is.1)
  | inr apart ↦ subst (λ b. cond b place (lows other) ≤ later) (sym apart.0) low
]

-- ---- touches

-- the touches of elements that lie at these pieces, the first of them having this number
abbrev pub plans_at : Transfer → ℕ → List Piece → List PlannedTouch
plans_at t element [] = []
plans_at t element (piece ∷ rest) =
    record { element = element; cell = piece.cell; change = change_of t element piece.first_byte }
    ∷ plans_at t (element + 1) rest

same_place : (seen : ℕ) (o : Option Change) → option_map_or (λ (_ : Change). seen + 1) o seen ≡ place_after seen o
same_place seen None = refl
same_place seen (Some change) = refl

past_touch : (seen : ℕ) (o : Option Change) → seen ≤ place_after seen o
past_touch seen None = omega arith
past_touch seen (Some change) = omega arith

abbrev NotBelow : Lows → made.MadeTouch → Type 0
NotBelow lows touch = lows touch.plan.cell ≤ touch.seen.place

abbrev IsPassed : Lows → made.MadeTouch → Type 0
IsPassed after touch = made.place_after touch ≤ after touch.plan.cell

later_above : (lows : Lows) (cell place : ℕ) (touches : List made.MadeTouch) →
    AllByRecursion (NotBelow lows) touches →
    AllByRecursion (λ (touch : made.MadeTouch). touch.plan.cell ≡ cell → place ≤ touch.seen.place) touches →
    AllByRecursion (NotBelow (raised lows cell place)) touches
later_above lows cell place [] low past = tt
later_above lows cell place (touch ∷ touches) low past = (
  raised_below lows cell place touch.plan.cell touch.seen.place low.0 past.0,
  later_above lows cell place touches low.1 past.1,
)

-- the touches are those of the elements at these pieces
pub are_touches : (t : Transfer) (issue element : ℕ) (places : List Piece) (touches : List made.MadeTouch)
    (lows after : Lows) →
    map made.plan_of touches ≡ plans_at t element places → AllByRecursion (NotBelow lows) touches →
    AllByRecursion (IsPassed after) touches → made.IsInOrder touches → AreAtMost lows after →
    AreTouches t issue element places lows (map (made.item_of issue) touches) after
are_touches t issue element [] [] lows after e low past order rise = (refl, rise)
are_touches t issue element [] (touch ∷ touches) lows after e low past order rise = absurd (cc e)
are_touches t issue element (piece ∷ rest) [] lows after e low past order rise = absurd (cc e)
are_touches t issue element (piece ∷ rest) (touch ∷ touches) lows after e low past order rise =
    let here : touch.plan ≡ record {
      element = element;
      cell = piece.cell;
      change = change_of t element piece.first_byte;
    } = cc e in
    let others : map made.plan_of touches ≡ plans_at t (element + 1) rest = cc e in
    let cell : touch.plan.cell ≡ piece.cell = ap (λ (p : PlannedTouch). p.cell) here in
    let change : touch.plan.change ≡ change_of t element piece.first_byte =
    ap (λ (p : PlannedTouch). p.change) here in
    let next = place_after touch.seen.place (change_of t element piece.first_byte) in
    let is_next : made.place_after touch ≡ next =
    same_place touch.seen.place touch.plan.change ∙ ap (place_after touch.seen.place) change in
    let not_below : lows piece.cell ≤ touch.seen.place =
    subst (λ c. lows c ≤ touch.seen.place) cell low.0 in
    let above : touch.seen.place ≤ next = past_touch touch.seen.place (change_of t element piece.first_byte) in
    let passed : next ≤ after piece.cell =
    subst (λ c. next ≤ after c) cell (subst (λ n. n ≤ after touch.plan.cell) is_next past.0) in
    let middle = raised lows piece.cell next in (
      touch.seen.place,
      touch.seen.bits,
      map (made.item_of issue) touches,
      middle,
      ap (λ (p : PlannedTouch). made.item_of issue (record touch { plan = p }) ∷ map (made.item_of issue) touches) here,
      not_below,
      raised_rises lows piece.cell next (omega (arith, not_below, above)),
      (let same = raised_here lows piece.cell next in omega arith),
      are_touches t issue (element + 1) rest touches middle after others
          (later_above lows piece.cell next touches low.1
          (each_weaker (made.Follows touch)
          (λ (later : made.MadeTouch). later.plan.cell ≡ piece.cell → next ≤ later.seen.place)
          (λ later follows same. subst (λ n. n ≤ later.seen.place) is_next (follows (same ∙ sym cell))) touches
          order.0)) past.1 order.1 (raised_most lows piece.cell next after rise passed),
    )

-- ---- the touches that an access asks for

plans_are : (t : Transfer) (layout : Layout) (access : Access) (from count : ℕ) →
    map (planned_by (Some t) layout access) (numbers_from from count)
    ≡ plans_at t from (map (λ element. piece_at layout access.target (element_address access t.dtype element))
    (numbers_from from count))
plans_are t layout access from zero = refl
plans_are t layout access from (suc count) =
    ap (λ rest. planned_by (Some t) layout access from ∷ rest) (plans_are t layout access (from + 1) count)

abbrev pub IsItsAccess : Option Transfer → Access → Type 0
IsItsAccess o access =
    IsSomeAnd o (λ t. (access.kind ≡ t.kind) × (access.len ≡ bytes_of t) × (access.lo % size_of t.dtype ≡ 0))

whole_by : (o : Option Transfer) (t : Transfer) (layout : Layout) (access : Access) → o ≡ Some t →
    IsItsAccess o access →
    map (planned_by o layout access) (numbers_from 0 (option_map_or (λ (t : Transfer). natural t.count) o 0))
    ≡ plans_at t 0 (pieces layout access t.dtype)
whole_by None t layout access e its = absurd (cc e)
whole_by (Some u) t layout access e its =
    let same : u ≡ t = cc e in
    let count : access.len / size_of u.dtype ≡ natural u.count =
    ap (λ (n : ℕ). n / size_of u.dtype) its.1 ∙ quotient u.dtype (natural u.count) in
    subst (λ (v : Transfer). map (planned_by (Some u) layout access) (numbers_from 0 (natural u.count))
    ≡ plans_at v 0 (pieces layout access v.dtype)) same
    (plans_are u layout access 0 (natural u.count)
    ∙ ap (λ n. plans_at u 0 (map (λ element. piece_at layout access.target (element_address access u.dtype element))
    (numbers_from 0 n))) (sym count))

-- all touches of an access are those of its elements
pub whole_plans : (layout : Layout) (access : Access) (call : Call) (t : Transfer) → transfer_of call ≡ Some t →
    IsAccessOf call access →
    planned_touches layout access call 0 (element_count call) ≡ plans_at t 0 (pieces layout access t.dtype)
whole_plans layout access call t e its = whole_by (transfer_of call) t layout access e its
