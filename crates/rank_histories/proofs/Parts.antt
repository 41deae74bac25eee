-- A delivery of several parts is one: what was touched before an attempt came too late, and what is touched after it.
use Rattle.std.proofs.Common.{◌≡◌, ℕ, zero, suc, ◌+◌, ◌-◌, ◌<◌, ◌≤◌, Bool, true, false, cond, List, [], ◌∷◌, ◌++◌, length}
use Rattle.std.proofs.Common.{map, Option, Some, None, refl, sym, ◌∙◌, ap, subst, arith, append_assoc}
use Rattle.std.specs.Prelude.{nat_lt, slice_get, slice_set, slice_index, remove}
use Rattle.std.specs.List.{AllByRecursion}
use Rattle.std.specs.Option.{option_map_or}
use Rattle.std.proofs.lemmas.Bool.{lt-ltb, ltb-true}
use Rattle.std.proofs.lemmas.List.{map-append}
use Rattle.list_laws.proofs.Each.{each_unmapped, each_append, each_weaker, each_with, each_removed}
use Rattle.list_laws.proofs.Lists.{set_removed}
use Rattle.rma_types.specs.declared.calls.Call.{Call}
use Rattle.rma_record.specs.declared.items.Item.{Item}
use Rattle.access_steps.proofs.KeptTouches.{kept_none}
use Rattle.access_steps.proofs.MoreTouches.{TouchesMade-append}
use Rattle.access_steps.specs.Plans.{PlannedTouch, element_count, planned_touch, planned_touches, LiesWithin}
use Rattle.access_steps.specs.TouchesMade.{MadeTouch, TouchesKept, plan_of, item_of, place_after}
use Rattle.call_rules.specs.declared.cells.Cell.{Cell}
use Rattle.rma_types.specs.declared.actions.Transfer.{Transfer}
use Rattle.rma_types.specs.Actions.{transfer_of}
use Rattle.call_rules.specs.Layout.{cells_of}
use Rattle.call_rules.specs.Pieces.{numbers_from}
use Rattle.cell_face.specs.Faces.{Face, Keeps, cell_count, low_at}
use Rattle.delivery_queue.specs.Queues as queues
use Rattle.lawful_runs.specs.Accesses.{transfer_at}
use Rattle.lawful_runs.specs.Stages.{Stage, calls_at}
use Rattle.rank_laws.specs.Deliveries.{AreTouchesOf, IsDelivered}
use Rattle.rank_laws.specs.Fronts.{AreAtMost}
use Rattle.rank_rules.specs.declared.pending.PendingAccess.{PendingAccess}
use Rattle.step_runs.specs.Agents.{Agent}
use Rattle.rank_histories.proofs.Touched.{IsItsAccess, are_touches, whole_plans}
use Rattle.rank_histories.specs.Among.{lows_in}
use Rattle.rank_histories.specs.Partly.{AreUntouched, HasDelivered, IsPartly, lows_of, queue_of}

-- ---- lists

got_index : (xs : List ℕ) (at n : ℕ) → slice_get xs at ≡ Some n → slice_index xs at ≡ n
got_index [] at n e = absurd (cc e)
got_index (x ∷ xs) zero n e = cc e
got_index (x ∷ xs) (suc at) n e = got_index xs at n e

set_got : (xs : List ℕ) (at n m : ℕ) → slice_get xs at ≡ Some m → slice_get (slice_set xs at n) at ≡ Some n
set_got [] at n m e = absurd (cc e)
set_got (x ∷ xs) zero n m e = refl
set_got (x ∷ xs) (suc at) n m e = set_got xs at n m e

zero_at : (xs : List ℕ) (at : ℕ) → at < length xs → AreUntouched xs → slice_get xs at ≡ Some 0
zero_at [] at below all = absurd (omega (arith, below))
zero_at (x ∷ xs) zero below all = ap Some all.0
zero_at (x ∷ xs) (suc at) below all = zero_at xs at (omega (arith, below)) all.1

numbers_joined : (first a b n : ℕ) → n ≡ a + b →
    numbers_from first n ≡ numbers_from first a ++ numbers_from (first + a) b
numbers_joined first zero b n e =
    let count : n ≡ b = omega (arith, e) in
    let begin : first ≡ first + 0 = omega arith in
    λ i. numbers_from (begin i) (count i)
numbers_joined first (suc a) b zero e = absurd (omega (arith, e))
numbers_joined first (suc a) b (suc n) e =
    let begin : first + 1 + a ≡ first + suc a = omega arith in
    ap (λ rest. first ∷ rest) (numbers_joined (first + 1) a b n (omega (arith, e))
    ∙ ap (λ m. numbers_from (first + 1) a ++ numbers_from m b) begin)

-- ---- lowest places

low_in : (cells : ℕ) (places : List ℕ) (cell : ℕ) → lows_in cells places cell ≤ slice_index places cell
low_in cells places cell = by (nat_lt cell cells)
  where
    by : (b : Bool) → cond b (slice_index places cell) 0 ≤ slice_index places cell
    by true = omega arith
    by false = omega arith

low_there : (cells : ℕ) (places : List ℕ) (cell : ℕ) → cell < cells →
    lows_in cells places cell ≡ slice_index places cell
low_there cells places cell below = ap (λ b. cond b (slice_index places cell) 0) (lt-ltb cell cells below)

pub lows_rise : (cells : ℕ) (places others : List ℕ) →
    ((cell : ℕ) → cell < cells → slice_index places cell ≤ slice_index others cell) →
    AreAtMost (lows_in cells places) (lows_in cells others)
lows_rise cells places others rise cell = by (nat_lt cell cells) refl
  where
    by : (b : Bool) → nat_lt cell cells ≡ b → cond b (slice_index places cell) 0 ≤ cond b (slice_index others cell) 0
    by true e = rise cell (ltb-true cell cells e)
    by false e = omega arith

-- ---- touches in two parts

planned_joined : (stage : Stage) (one : PendingAccess) (call : Call) (a b : ℕ) → a ≤ b →
    planned_touches stage.layout one.access call 0 a ++ planned_touches stage.layout one.access call a (b - a)
    ≡ planned_touches stage.layout one.access call 0 b
planned_joined stage one call a b le =
    let plan = planned_touch stage.layout one.access call in
    let sum : b ≡ a + (b - a) = omega (arith, le) in
    let begin : 0 + a ≡ a = omega arith in
    sym (map-append plan (numbers_from 0 a) (numbers_from a (b - a)))
    ∙ ap (map plan) (sym (numbers_joined 0 a (b - a) b sum
    ∙ ap (λ m. numbers_from 0 a ++ numbers_from m (b - a)) begin))

kept_joined : (first middle last : Face) (knew knows : ℕ → Cell → Type 0) (a b c : List Item) (issue : ℕ)
    (xs ys : List PlannedTouch) → TouchesKept first middle knew a b issue xs →
    TouchesKept middle last knows b c issue ys → Keeps knew knows →
    TouchesKept first last knows a c issue (xs ++ ys)
kept_joined first middle last knew knows a b c issue xs ys one two keeps = record {
  touches = one.touches ++ two.touches;
  plans = map-append plan_of one.touches two.touches ∙ (λ i. one.plans i ++ two.plans i);
  items = two.items ∙ ap (λ l. l ++ map (item_of issue) two.touches) one.items
      ∙ append_assoc a (map (item_of issue) one.touches) (map (item_of issue) two.touches)
      ∙ ap (λ l. a ++ l) (sym (map-append (item_of issue) one.touches two.touches));
  made = TouchesMade-append first middle last one.touches two.touches one.made two.made;
  states = each_append (λ touch. knows touch.plan.cell touch.seen) one.touches two.touches
      (each_weaker (λ (touch : MadeTouch). knew touch.plan.cell touch.seen)
      (λ (touch : MadeTouch). knows touch.plan.cell touch.seen)
      (λ touch known. keeps touch.plan.cell touch.seen known) one.touches one.states) two.states;
}

pub planned_inside : (stage : Stage) (one : PendingAccess) (call : Call) (cells from count : ℕ) →
    LiesWithin stage.layout one.access call cells → from + count ≤ element_count call →
    AllByRecursion (λ (p : PlannedTouch). p.cell < cells)
    (map (planned_touch stage.layout one.access call) (numbers_from from count))
planned_inside stage one call cells from zero lies le = tt
planned_inside stage one call cells from (suc count) lies le = (
  (lies from (omega (arith, le))).0,
  planned_inside stage one call cells (from + 1) count lies (omega (arith, le)),
)

-- ---- an access

-- the elements before the next one are touched since this rank and this face
pub record HasBegun (stage : Stage) (begun : Agent) (at : ℕ) (since : Face) (agent : Agent) (touched : List ℕ)
    (face : Face) (knows : ℕ → Cell → Type 0) : Type 0 where
  pub next : ℕ
  pub counted : slice_get touched at ≡ Some next
  pub others : AreUntouched (remove touched at)
  pub rank : agent ≡ record begun { log = agent.log }
  pub touches : (one : PendingAccess) (call : Call) → slice_get begun.pending at ≡ Some one →
      slice_get (calls_at stage begun.rank) one.number ≡ Some call →
      TouchesKept since face knows begun.log agent.log one.index
      (planned_touches stage.layout one.access call 0 next)

pub begun_fresh : (stage : Stage) (begun : Agent) (at : ℕ) (touched : List ℕ) (face : Face)
    (knows : ℕ → Cell → Type 0) → at < length touched → AreUntouched touched →
    HasBegun stage begun at face begun touched face knows
begun_fresh stage begun at touched face knows below all = record {
  next = 0;
  counted = zero_at touched at below all;
  others = each_removed (λ count. count ≡ 0) touched at all;
  rank = refl;
  touches = λ one call here named. kept_none face knows begun.log one.index;
}

pub begun_partly : (stage : Stage) (begun : Agent) (at : ℕ) (since : Face) (agent : Agent) (touched : List ℕ)
    (face : Face) (knows : ℕ → Cell → Type 0) → IsPartly stage begun at since agent touched face knows →
    HasBegun stage begun at since agent touched face knows
begun_partly stage begun at since agent touched face knows partly = record {
  next = partly.next;
  counted = partly.counted;
  others = partly.others;
  rank = partly.rank;
  touches = λ one call here named.
      let same : partly.one ≡ one = (let both : Some partly.one ≡ Some one = sym partly.here ∙ here in cc both) in
      let its : Some partly.call ≡ Some call =
      sym partly.named ∙ ap (λ (o : PendingAccess). slice_get (calls_at stage begun.rank) o.number) same ∙ named in
      let called : partly.call ≡ call = cc its in
      subst (λ (c : Call). TouchesKept since face knows begun.log agent.log one.index
      (planned_touches stage.layout one.access c 0 partly.next)) called
      (subst (λ (o : PendingAccess). TouchesKept since face knows begun.log agent.log o.index
      (planned_touches stage.layout o.access partly.call 0 partly.next)) same partly.touches);
}

-- the touches of a whole access are those of its delivery
whole_touches : (stage : Stage) (begun : Agent) (since face : Face) (knows : ℕ → Cell → Type 0) (log : List Item)
    (one : PendingAccess) (call : Call) → cell_count since ≡ cells_of stage.layout →
    queues.IsOfCall stage.layout (cells_of stage.layout) one call →
    (kept : TouchesKept since face knows begun.log log one.index
    (planned_touches stage.layout one.access call 0 (element_count call))) →
    (o : Option Transfer) → transfer_of call ≡ o →
    AreTouchesOf stage one o (lows_of stage since) (map (item_of one.index) kept.touches) (lows_of stage face)
whole_touches stage begun since face knows log one call room its kept None e =
    elim (subst (λ (o : Option Transfer). IsItsAccess o one.access) e its.1) [ ]
whole_touches stage begun since face knows log one call room its kept (Some t) e =
    let cells = cells_of stage.layout in
    let inside = each_unmapped (λ (p : PlannedTouch). p.cell < cells) plan_of kept.touches
    (subst (AllByRecursion (λ (p : PlannedTouch). p.cell < cells)) (sym kept.plans)
    (planned_inside stage one call cells 0 (element_count call) its.2 (omega arith))) in
    are_touches t one.index 0 _ kept.touches (lows_of stage since) (lows_of stage face)
    (kept.plans ∙ whole_plans stage.layout one.access call t e its.1)
    (each_weaker (λ (touch : MadeTouch). low_at since touch.plan.cell ≤ touch.seen.place)
    (λ (touch : MadeTouch). lows_of stage since touch.plan.cell ≤ touch.seen.place)
    (λ touch low. (let under = low_in cells since.lows touch.plan.cell in omega (arith, low, under))) kept.touches
    kept.made.not_below)
    (each_with (λ (touch : MadeTouch). touch.plan.cell < cells)
    (λ (touch : MadeTouch). place_after touch ≤ low_at face touch.plan.cell)
    (λ (touch : MadeTouch). place_after touch ≤ lows_of stage face touch.plan.cell)
    (λ touch below high. (let there = low_there cells face.lows touch.plan.cell below in omega (arith, high, there)))
    kept.touches inside kept.made.raised)
    kept.made.order (lows_rise cells since.lows face.lows (λ cell below. kept.made.stays.lows cell))

-- a delivery goes on: it is done, or an attempt came too late
pub delivery_on : (stage : Stage) (begun : Agent) (at : ℕ) (since : Face) (agent : Agent) (touched : List ℕ)
    (face : Face) (knew : ℕ → Cell → Type 0) (after : Agent) (touched_after : List ℕ) (face_after : Face)
    (knows : ℕ → Cell → Type 0) (done : Bool) →
    cell_count since ≡ cells_of stage.layout → cell_count face ≡ cells_of stage.layout →
    HasBegun stage begun at since agent touched face knew → Keeps knew knows →
    after ≡ record agent { log = after.log; pending = after.pending } →
    queues.Delivers (queue_of agent touched) (queue_of after touched_after) at done stage.layout
    (calls_at stage agent.rank) face face_after knows agent.log after.log →
    HasDelivered done stage begun at since after touched_after face_after knows
delivery_on stage begun at since agent touched face knew after touched_after face_after knows done room here_room was
    keeps rank made = by_done done refl
  where
    one : PendingAccess
    one = made.one

    call : Call
    call = made.call

    here : slice_get begun.pending at ≡ Some one
    here = ap (λ (a : Agent). slice_get a.pending at) (sym was.rank) ∙ made.here

    named : slice_get (calls_at stage begun.rank) one.number ≡ Some call
    named = ap (λ (a : Agent). slice_get (calls_at stage a.rank) one.number) (sym was.rank) ∙ made.named

    from : slice_index touched at ≡ was.next
    from = got_index touched at was.next was.counted

    le : was.next ≤ made.next
    le = subst (λ n. n ≤ made.next) from made.begun

    kept : TouchesKept since face_after knows begun.log after.log one.index
        (planned_touches stage.layout one.access call 0 made.next)
    kept = subst (TouchesKept since face_after knows begun.log after.log one.index)
        (planned_joined stage one call was.next made.next le)
        (kept_joined since face face_after knew knows begun.log agent.log after.log one.index
        (planned_touches stage.layout one.access call 0 was.next)
        (planned_touches stage.layout one.access call was.next (made.next - was.next))
        (was.touches one call here named)
        (subst (λ n. TouchesKept face face_after knows agent.log after.log one.index
        (planned_touches stage.layout one.access call n (made.next - n))) from made.touches) keeps)

    its : queues.IsOfCall stage.layout (cells_of stage.layout) one call
    its = subst (λ n. queues.IsOfCall stage.layout n one call) here_room made.is_its

    from_begun : after ≡ record begun { log = after.log; pending = after.pending }
    from_begun = rank ∙ ap (λ (a : Agent). record a { log = after.log; pending = after.pending }) was.rank

    pending_was : agent.pending ≡ begun.pending
    pending_was = ap (λ (a : Agent). a.pending) was.rank

    by_done : (b : Bool) → done ≡ b → HasDelivered b stage begun at since after touched_after face_after knows
    by_done true e =
        let all : made.next ≡ element_count call = made.whole e in
        let is_after : queue_of after touched_after ≡ queues.without_access (queue_of agent touched) at =
        made.queue_after ∙ ap (λ b. queues.after_delivery b (queue_of agent touched) at made.next) e in
        let left : after.pending ≡ remove begun.pending at =
        ap (λ (q : queues.Queue). q.pending) is_after ∙ ap (λ (l : List PendingAccess). remove l at) pending_was in
        let whole = subst (λ n. TouchesKept since face_after knows begun.log after.log one.index
        (planned_touches stage.layout one.access call 0 n)) all kept in
        let items = map (item_of one.index) whole.touches in
        let transfer : transfer_at (calls_at stage begun.rank) one.number ≡ transfer_of call =
        ap (λ (o : Option Call). option_map_or transfer_of o None) named in (
          subst (λ (o : Option PendingAccess). IsDelivered stage begun at o (lows_of stage since) after
              (lows_of stage face_after)) (sym here) (
                items,
                subst (λ (o : Option Transfer). AreTouchesOf stage one o (lows_of stage since) items
                    (lows_of stage face_after)) (sym transfer)
                    (whole_touches stage begun since face_after knows after.log one call room its whole
                    (transfer_of call) refl),
                from_begun ∙ (λ i. record begun { log = whole.items i; pending = left i }),
              ),
          subst AreUntouched (sym (ap (λ (q : queues.Queue). q.touched) is_after)) was.others,
        )
    by_done false e =
        let is_after : queue_of after touched_after ≡ queues.with_touched (queue_of agent touched) at made.next =
        made.queue_after ∙ ap (λ b. queues.after_delivery b (queue_of agent touched) at made.next) e in
        let counts : touched_after ≡ slice_set touched at made.next = ap (λ (q : queues.Queue). q.touched) is_after in
        let same : after.pending ≡ begun.pending = ap (λ (q : queues.Queue). q.pending) is_after ∙ pending_was in
        record {
          one = one;
          call = call;
          here = here;
          named = named;
          next = made.next;
          left = made.left e;
          counted = ap (λ (l : List ℕ). slice_get l at) counts ∙ set_got touched at made.next was.next was.counted;
          others = subst AreUntouched (sym (ap (λ (l : List ℕ). remove l at) counts
              ∙ set_removed touched at made.next)) was.others;
          rank = from_begun ∙ (λ i. record begun { log = after.log; pending = same i });
          touches = kept;
        }
