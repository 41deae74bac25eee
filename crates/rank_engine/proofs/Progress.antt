-- A step without the board that is done keeps an item, or makes the draw of a call.
use Rattle.std.proofs.Common.{◌≡◌, ℕ, zero, suc, ◌+◌, ◌-◌, ◌<◌, ◌≤◌, ◌⊎◌, inl, inr, Bool, true, false, cond, not, List}
use Rattle.std.proofs.Common.{[], ◌∷◌, ◌++◌, length, Option, Some, None, refl, sym, ◌∙◌, ap, subst, arith, length-append}
use Rattle.std.specs.Prelude.{◌&&◌, ◌==◌, IfSome, IsSome, is_none, map, nat_lt, slice_get, slice_index}
use Rattle.std.specs.Option.{option_and_then, option_map_or}
use Rattle.std.proofs.lemmas.Bool.{and_parts, lt-ltb}
use Rattle.std.proofs.lemmas.List.{length-map}
use Rattle.rma_types.specs.declared.accesses.Access.{Access}
use Rattle.rma_types.specs.declared.calls.Call.{Call}
use Rattle.rma_types.specs.declared.classes.Class.{Class}
use Rattle.rma_record.specs.declared.items.Item.{Item}
use Rattle.rma_record.specs.declared.items.Item.TheVariants.{Issue, Null, Flush, Request, Refused, Ended}
use Rattle.call_rules.proofs.NumbersFrom.{numbers_length}
use Rattle.access_steps.specs.Plans.{element_count, planned_touch}
use Rattle.access_steps.specs.TouchesMade.{MadeTouch, item_of, plan_of}
use Rattle.rma_types.specs.declared.actions.Transfer.{Transfer}
use Rattle.rma_types.specs.Actions.{transfer_of}
use Rattle.call_rules.specs.declared.cells.Cell.{Cell}
use Rattle.call_rules.specs.Pieces.{numbers_from}
use Rattle.cell_face.specs.Faces.{Face}
use Rattle.lawful_runs.specs.Stages.{Stage, calls_at}
use Rattle.rank_rules.specs.Courses.{Course, OneNull, OneIssue, LookUpAndIssue, OneFlush, OneRequest, ArriveAndLeave}
use Rattle.rank_rules.specs.Courses.{EntryOrTested, OneEntry, access_of, course_of, has_entry}
use Rattle.rank_rules.specs.Knowledge.{own_class}
use Rattle.rank_rules.specs.declared.pending.PendingAccess.{PendingAccess}
use Rattle.step_laws.proofs.OwnTests.{HasIssue, allowed_has_access, transfer_with_issue}
use Rattle.step_runs.specs.Agents.{Agent, awaited_by, begins_with_entry, has_pending, is_seeded, must_draw, next_call}
use Rattle.step_laws.proofs.Weights.{awaited_within}
use Rattle.step_runs.specs.Agents.{keep_item, tries_entry}
use Rattle.step_runs.specs.DataSteps.{Move, begin, draw, end, first_item, go_on, issue, issue_of, judge, just_delivers}
use Rattle.step_runs.specs.DataSteps.{move_of, no_shapes, wait_or_go_on, with_item, without_delivery}
use Rattle.rank_engine.proofs.Deliveries.{PendingAt, pending_at}
use Rattle.rank_engine.proofs.RefusedMoves.{move_keeps}
use Rattle.rank_engine.specs.DataAnswers.{GetsOn, IsDelivered, is_over}
use Rattle.rank_engine.specs.Moves.{IsFirst, IsMove}
use Rattle.rank_engine.specs.RankStates.{RankState, delivery_of, needs_entry, own_move}
use Rattle.rank_engine.specs.Sound.{IsBegun, IsSound}

-- a move keeps an item, makes a draw, or is followed by a delivery
abbrev Goes : Agent → Move → Type 0
Goes agent move = (length agent.log < length move.agent.log)
    ⊎ (((agent.drawn ≡ false) × (move.agent.drawn ≡ true)) ⊎ IsSome (delivery_of move))

one_longer : (log : List Item) (item : Item) → length log < length (log ++ item ∷ [])
one_longer log item = let long = length-append log (item ∷ []) in omega arith

delivers : (agent : Agent) (at : ℕ) → at < length agent.pending → Goes agent (just_delivers agent at)
delivers agent at within =
    let is : delivery_of (just_delivers agent at) ≡ Some at =
    ap (λ b. cond b (Some at) None) (lt-ltb at (length agent.pending) within) in
    inr (inr (subst IsSome (sym is) refl))

item_goes : (stage : Stage) (agent : Agent) (item : Item) → Goes agent (without_delivery (with_item stage agent item))
item_goes stage agent item = inl (one_longer agent.log item)

issue_goes : (stage : Stage) (agent : Agent) (call : Call) (t : Transfer) → transfer_of call ≡ Some t →
    own_class agent.known call ≡ None → Goes agent (issue stage agent call)
issue_goes stage agent call t moves allowed =
    let some = allowed_has_access agent.known call t moves allowed in
    let none : Move = without_delivery agent in
    subst (λ o. Goes agent (option_map_or (λ (x : Transfer). option_map_or (issue_of stage agent x)
    (access_of agent.known.windows call) none) o none)) (sym moves)
    (subst (λ o. Goes agent (option_map_or (issue_of stage agent t) o none)) (sym some.2)
    (inl (one_longer agent.log (Issue agent.at _))))

first_goes : (course : Course) (stage : Stage) (agent : Agent) (call : Call) →
    course_of agent.known.windows call ≡ course → has_entry course ≡ false → own_class agent.known call ≡ None →
    Goes agent (first_item course stage agent call)
first_goes OneNull stage agent call is none allowed = item_goes stage agent (Null agent.at)
first_goes OneIssue stage agent call is none allowed =
    let t = transfer_with_issue agent.known.windows call (subst HasIssue (sym is) tt) in
    issue_goes stage agent call t.0 t.1 allowed
first_goes LookUpAndIssue stage agent call is none allowed = absurd (cc none)
first_goes OneFlush stage agent call is none allowed = item_goes stage agent (Flush agent.at)
first_goes OneRequest stage agent call is none allowed = item_goes stage agent (Request agent.at)
first_goes ArriveAndLeave stage agent call is none allowed = absurd (cc none)
first_goes EntryOrTested stage agent call is none allowed = absurd (cc none)
first_goes OneEntry stage agent call is none allowed = absurd (cc none)

-- a call that tries no entry, though it waits for nothing, has none
without_entry : (stage : Stage) (agent : Agent) (call : Call) → must_draw stage agent ≡ false →
    own_class agent.known call ≡ None → awaited_by agent call ≡ None → begins_with_entry stage agent call ≡ false →
    has_entry (course_of agent.known.windows call) ≡ false
without_entry stage agent call still allowed waits begins =
    let has = has_entry (course_of agent.known.windows call) in
    sym (ap (λ b. not b && is_none (own_class agent.known call) && is_none (awaited_by agent call) && has) still
    ∙ (ap (λ o. is_none o && is_none (awaited_by agent call) && has) allowed ∙ ap (λ o. is_none o && has) waits))
    ∙ begins

waits_go : (stage : Stage) (agent : Agent) (call : Call) (o : Option ℕ) → awaited_by agent call ≡ o →
    must_draw stage agent ≡ false → own_class agent.known call ≡ None → begins_with_entry stage agent call ≡ false →
    Goes agent (wait_or_go_on o stage agent call)
waits_go stage agent call None is still allowed begins =
    first_goes (course_of agent.known.windows call) stage agent call refl
    (without_entry stage agent call still allowed is begins) allowed
waits_go stage agent call (Some at) is still allowed begins =
    delivers agent at (awaited_within agent.known.requests call agent.pending at is)

begin_goes : (stage : Stage) (agent : Agent) (call : Call) → begins_with_entry stage agent call ≡ false →
    Goes agent (begin stage agent call)
begin_goes stage agent call begins = by_draw (must_draw stage agent) refl
  where
    undrawn : (b : Bool) → not b ≡ true → b ≡ false
    undrawn true h = absurd (cc h)
    undrawn false h = refl

    by_class : must_draw stage agent ≡ false → (o : Option Class) → own_class agent.known call ≡ o →
        Goes agent (judge o stage agent call)
    by_class still (Some class) e = item_goes stage agent (Refused agent.at class 0)
    by_class still None e = waits_go stage agent call (awaited_by agent call) refl still e begins

    by_draw : (b : Bool) → must_draw stage agent ≡ b → Goes agent
        (cond b (draw agent) (judge (own_class agent.known call) stage agent call))
    by_draw true e =
        let seeded = (and_parts (is_seeded stage.delay && not agent.drawn) (has_pending agent) e).0 in
        inr (inl (undrawn agent.drawn (and_parts (is_seeded stage.delay) (not agent.drawn) seeded).1, refl))
    by_draw false e = by_class e (own_class agent.known call) refl

-- a step of a rank that is not over goes on
own_goes : (s : RankState) → IsSound s → needs_entry s ≡ false → is_over s ≡ false → Goes s.agent (own_move s)
own_goes s sound needs left = by_opened s.opened refl
  where
    some_transfer : (call : Call) → is_none (transfer_of call) ≡ false → (t : Transfer) × (transfer_of call ≡ Some t)
    some_transfer call h = by_transfer (transfer_of call) refl h
      where
        by_transfer : (o : Option Transfer) → transfer_of call ≡ o → is_none o ≡ false →
            (t : Transfer) × (transfer_of call ≡ Some t)
        by_transfer None e n = absurd (cc n)
        by_transfer (Some t) e n = (t, e)

    by_entered : (call : Call) → next_call s.stage s.agent ≡ Some call → (b : Bool) → s.agent.entered ≡ b →
        cond b (is_none (transfer_of call)) (begins_with_entry s.stage s.agent call) ≡ false →
        Goes s.agent (cond b (issue s.stage s.agent call) (begin s.stage s.agent call))
    by_entered call here true e tries =
        let begun : IsBegun s.stage.layout s.agent.known call =
        subst (λ (o : Option Call). IfSome o (IsBegun s.stage.layout s.agent.known)) here (sound.begun e) in
        let t = some_transfer call tries in issue_goes s.stage s.agent call t.0 t.1 begun.passed
    by_entered call here false e tries = begin_goes s.stage s.agent call tries

    pending : (n : ℕ) → not (not (n == 0)) ≡ false → 0 < n
    pending zero h = absurd (cc h)
    pending (suc n) h = omega arith

    over : Agent
    over = record (keep_item no_shapes s.stage s.agent Ended) { ended = true }

    at_end : not (has_pending s.agent) ≡ false → Goes s.agent (end s.stage s.agent)
    at_end h = subst (λ b. Goes s.agent (cond b (just_delivers s.agent 0)
        (cond s.agent.ended (without_delivery s.agent) (without_delivery over)))) (sym (has (has_pending s.agent) h))
        (delivers s.agent 0 (pending (length s.agent.pending) h))
      where
        has : (b : Bool) → not b ≡ false → b ≡ true
        has true e = refl
        has false e = absurd (cc e)

    by_call : (o : Option Call) → next_call s.stage s.agent ≡ o →
        option_map_or (λ (call : Call). cond s.agent.entered (is_none (transfer_of call))
        (begins_with_entry s.stage s.agent call)) o false ≡ false → (is_none o && not (has_pending s.agent)) ≡ false →
        Goes s.agent (option_map_or (go_on s.stage s.agent) o (end s.stage s.agent))
    by_call None e tries over = at_end over
    by_call (Some call) e tries over = by_entered call e s.agent.entered refl tries

    by_opened : (o : Option ℕ) → s.opened ≡ o →
        Goes s.agent (option_map_or (just_delivers s.agent) o (move_of s.stage s.agent))
    by_opened None e = by_call (next_call s.stage s.agent) refl
        (ap (λ o. is_none o && tries_entry s.stage s.agent) (sym e) ∙ needs) left
    by_opened (Some at) e = delivers s.agent at
        (subst (λ o. IfSome o (IsFirst s.agent.pending)) e sound.queue.first).0

-- ---- a step that is done

-- nothing is delivered
pub gets_on_alone : (before after : RankState) → IsSound before → needs_entry before ≡ false →
    is_over before ≡ false → IsMove before after (own_move before) → after.opened ≡ None → GetsOn before after
gets_on_alone before after sound needs left move opens =
    by_goes (own_goes before sound needs left)
  where
    is : after.agent ≡ (own_move before).agent
    is = ap (λ (s : RankState). s.agent) move.rank

    by_goes : Goes before.agent (own_move before) → GetsOn before after
    by_goes (inl longer) = inl (subst (λ (a : Agent). length before.agent.log < length a.log) (sym is) longer)
    by_goes (inr (inl draws)) = inr (draws.0, ap (λ (a : Agent). a.drawn) is ∙ draws.1)
    by_goes (inr (inr delivery)) =
        let none : delivery_of (own_move before) ≡ None =
        sym (ap (λ (s : RankState). s.opened) move.rank) ∙ opens in
        let some : IsSome {T = ℕ} None = subst IsSome none delivery in absurd (cc some)

-- a pending access is delivered, some of whose elements were left
pub gets_on_delivered : (before between after : RankState) (at : ℕ) (face face_after : Face)
    (knows : ℕ → Cell → Type 0) → IsSound between → IsMove before between (own_move before) →
    between.opened ≡ Some at → IsDelivered (Some at) between after true face face_after knows → GetsOn before after
gets_on_delivered before between after at face face_after knows sound move opens delivered =
    let d = delivered.1 in
    let keeps = move_keeps before between move in
    let first = subst (λ o. IfSome o (IsFirst between.agent.pending)) opens sound.queue.first in
    let here : PendingAt between.stage.layout (calls_at between.stage between.agent.rank) between.agent.pending
    between.touched at = pending_at between.stage.layout (calls_at between.stage between.agent.rank)
    between.agent.pending between.touched at sound.queue.each first.0 in
    let one_is : d.one ≡ here.one = cc (d.here, here.here) in
    let named : slice_get (calls_at between.stage between.agent.rank) here.one.number ≡ Some d.call =
    subst (λ (p : PendingAccess). slice_get (calls_at between.stage between.agent.rank) p.number ≡ Some d.call) one_is
    d.named in
    let call_is : here.is.call ≡ d.call = cc (named, here.is.named) in
    let begun : slice_index between.touched at < element_count d.call =
    subst (λ (c : Call). slice_index between.touched at < element_count c) call_is here.is.begun in
    let touches : List MadeTouch = d.touches.touches in
    let from : ℕ = slice_index between.touched at in
    let count : length touches ≡ d.next - from =
    sym (length-map touches plan_of)
    ∙ (ap length d.touches.plans
    ∙ (length-map (numbers_from from (d.next - from)) (planned_touch between.stage.layout d.one.access d.call)
    ∙ numbers_length from (d.next - from))) in
    let grown : length after.agent.log ≡ length between.agent.log + length touches =
    ap length d.touches.items
    ∙ (length-append between.agent.log (map (item_of d.one.index) touches)
    ∙ ap (λ n. length between.agent.log + n) (length-map touches (item_of d.one.index))) in
    let more : length between.agent.log ≡ length before.agent.log + length keeps.0 =
    ap length keeps.1 ∙ length-append before.agent.log keeps.0 in
    inl (longer (length before.agent.log) (length keeps.0) (length between.agent.log) (length touches)
    (length after.agent.log) d.next from (element_count d.call) more grown count (d.whole refl) begun)
  where
    longer : (a k b t c next from all : ℕ) → b ≡ a + k → c ≡ b + t → t ≡ next - from → next ≡ all → from < all → a < c
    longer a k b t c next from all e f g h l = omega arith
