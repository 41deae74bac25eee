-- What a delivery takes of the share is what it takes of the updates ahead.
use Rattle.std.proofs.Common.{◌≡◌, ℕ, zero, suc, ◌+◌, ◌-◌, ◌≤◌, Bool, true, false, cond, not, List, [], ◌∷◌, ◌++◌}
use Rattle.std.proofs.Common.{length, Option, Some, None, refl, sym, ◌∙◌, ap, subst, arith}
use Rattle.std.specs.Prelude.{drop, map, remove, slice_get, slice_index, slice_set}
use Rattle.std.specs.List.{sum_by}
use Rattle.std.specs.Option.{option_and_then, option_map_or}
use Rattle.rma_types.specs.declared.accesses.Access.{Access}
use Rattle.rma_types.specs.declared.calls.Call.{Call}
use Rattle.rma_types.specs.declared.scripts.Layout.{Layout}
use Rattle.call_rules.proofs.NumbersFrom.{numbers_length}
use Rattle.access_steps.specs.Plans.{PlannedTouch, change_by, element_count, is_update, planned_touch, planned_touches}
use Rattle.access_steps.specs.TouchesMade.{MadeTouch, plan_of, update_by, updates_of as updates_among}
use Rattle.rma_types.specs.declared.actions.Transfer.{Transfer}
use Rattle.rma_types.specs.Actions.{transfer_of}
use Rattle.call_rules.specs.declared.cells.Cell.{Cell}
use Rattle.call_rules.specs.Pieces.{numbers_from}
use Rattle.call_rules.specs.Transfers.{change_of, is_no_op}
use Rattle.cell_face.specs.Faces.{Face}
use Rattle.access_steps.proofs.KeptTouches.{updates_fewer}
use Rattle.delivery_queue.specs.Queues.{Queue, Delivers, after_delivery}
use Rattle.lawful_runs.specs.Stages.{calls_at}
use Rattle.rank_rules.specs.declared.pending.PendingAccess.{PendingAccess}
use Rattle.rank_engine.specs.DataAnswers.{opened_after}
use Rattle.rank_engine.specs.RankStates.{RankState, queue_of}
use Rattle.rank_engine.specs.Shares.{updates_ahead, updates_by, updates_left, updates_of}
use Rattle.rank_engine.specs.Sound.{ArePending, IsSound}
use Rattle.std.proofs.lemmas.List.{length-map}

-- ---- how many updates touches make

reads_only : (call : Call) (element first : ℕ) → is_update call ≡ false → change_by call element first ≡ None
reads_only call element first e = by_transfer (transfer_of call) e
  where
    by_no_op : (t : Transfer) (b : Bool) → is_no_op t.op ≡ b → not b ≡ false → change_of t element first ≡ None
    by_no_op t true is e = ap (λ b. cond b None (Some (record {
      first_byte = first;
      dtype = t.dtype;
      op = t.op;
      operand = slice_index t.operands element;
      compare = t.compare;
    }))) is
    by_no_op t false is e = absurd (cc e)

    by_transfer : (o : Option Transfer) → option_map_or (λ (t : Transfer). not (is_no_op t.op)) o false ≡ false →
        option_and_then (λ (t : Transfer). change_of t element first) o ≡ None
    by_transfer None h = refl
    by_transfer (Some t) h = by_no_op t (is_no_op t.op) refl h

no_updates : (layout : Layout) (access : Access) (call : Call) (from count : ℕ) (touches : List MadeTouch) →
    is_update call ≡ false → map plan_of touches ≡ planned_touches layout access call from count →
    updates_among touches ≡ []
no_updates layout access call from count [] e plans = refl
no_updates layout access call from zero (touch ∷ touches) e plans = absurd (cc plans)
no_updates layout access call from (suc count) (touch ∷ touches) e plans =
    let first : touch.plan ≡ planned_touch layout access call from = cc plans in
    let rest : map plan_of touches ≡ planned_touches layout access call (from + 1) count = cc plans in
    let none : touch.plan.change ≡ None = ap (λ (p : PlannedTouch). p.change) first ∙ reads_only call from _ e in
    ap (λ o. update_by touch.plan.cell touch.seen o ++ updates_among touches) none
    ∙ no_updates layout access call (from + 1) count touches e rest

-- ---- what is left

left_removed : (layout : Layout) (calls : List Call) (pending : List PendingAccess) (touched : List ℕ) (at : ℕ)
    (one : PendingAccess) → ArePending layout calls pending touched → slice_get pending at ≡ Some one →
    updates_left calls pending touched ≡
    (updates_by calls one - slice_index touched at) + updates_left calls (remove pending at) (remove touched at)
left_removed layout calls [] touched at one h here = absurd (cc here)
left_removed layout calls (other ∷ pending) [] at one h here = absurd h
left_removed layout calls (other ∷ pending) (count ∷ touched) zero one h here =
    let is : other ≡ one = cc here in
    ap (λ (p : PendingAccess). (updates_by calls p - count) + updates_left calls pending touched) is
left_removed layout calls (other ∷ pending) (count ∷ touched) (suc at) one h here =
    let rest = left_removed layout calls pending touched at one h.1 here in omega arith

left_touched : (layout : Layout) (calls : List Call) (pending : List PendingAccess) (touched : List ℕ) (at next : ℕ)
    (one : PendingAccess) → ArePending layout calls pending touched → slice_get pending at ≡ Some one →
    updates_left calls pending touched + (updates_by calls one - next) ≡
    (updates_by calls one - slice_index touched at) + updates_left calls pending (slice_set touched at next)
left_touched layout calls [] touched at next one h here = absurd (cc here)
left_touched layout calls (other ∷ pending) [] at next one h here = absurd h
left_touched layout calls (other ∷ pending) (count ∷ touched) zero next one h here =
    let is : other ≡ one = cc here in
    let first = ap (updates_by calls) is in omega arith
left_touched layout calls (other ∷ pending) (count ∷ touched) (suc at) next one h here =
    let rest = left_touched layout calls pending touched at next one h.1 here in omega arith

-- ---- a delivery

pub delivered_ahead : (s after : RankState) (at : ℕ) (done : Bool) (face face_after : Face) (knows : ℕ → Cell → Type 0)
    →
    IsSound s →
    after ≡ record s {
      agent = record s.agent { log = after.agent.log; pending = after.agent.pending };
      touched = after.touched;
      opened = opened_after done at;
      free = after.free;
    } →
    Delivers (queue_of s) (queue_of after) at done s.stage.layout (calls_at s.stage s.agent.rank) face face_after knows
    s.agent.log after.agent.log →
    face.share + updates_ahead after ≤ face_after.share + updates_ahead s
delivered_ahead s after at done face face_after knows sound eq d =
    subst (λ n. face.share + n ≤ face_after.share + updates_ahead s) (sym ahead) (by_done done d.queue_after)
  where
    calls : List Call
    calls = calls_at s.stage s.agent.rank

    own : ℕ
    own = updates_by (calls_at s.stage s.agent.rank) d.one

    from : ℕ
    from = slice_index s.touched at

    touches : List MadeTouch
    touches = d.touches.touches

    later : ℕ
    later = sum_by updates_of (drop s.agent.at (calls_at s.stage s.agent.rank))

    ahead : updates_ahead after ≡ later + updates_left (calls_at s.stage s.agent.rank) after.agent.pending after.touched
    ahead = ap updates_ahead eq

    count : length touches ≡ d.next - from
    count =
        sym (length-map touches plan_of)
        ∙ (ap length d.touches.plans
        ∙ (length-map (numbers_from from (d.next - from)) (planned_touch s.stage.layout d.one.access d.call)
        ∙ numbers_length from (d.next - from)))

    own_is : own ≡ updates_of d.call
    own_is = ap (λ o. option_map_or updates_of o 0) d.named

    bound : (b : Bool) → is_update d.call ≡ b → length (updates_among touches) + (own - d.next) ≤ own - from
    bound true e =
        let few = updates_fewer touches in
        let all : own ≡ element_count d.call = own_is ∙ ap (λ b. cond b (element_count d.call) 0) e in
        enough (length (updates_among touches)) (length touches) own d.next from (element_count d.call) few count all
        d.begun
        d.within
      where
        enough : (u t n next from count : ℕ) → u ≤ t → t ≡ next - from → n ≡ count → from ≤ next → next ≤ count →
            u + (n - next) ≤ n - from
        enough u t n next from count h e k l m = omega arith
    bound false e =
        let none : own ≡ 0 = own_is ∙ ap (λ b. cond b (element_count d.call) 0) e in
        let updates : length (updates_among touches) ≡ 0 =
        ap length (no_updates s.stage.layout d.one.access d.call from (d.next - from) touches e d.touches.plans) in
        nothing (length (updates_among touches)) own d.next from updates none
      where
        nothing : (u n next from : ℕ) → u ≡ 0 → n ≡ 0 → u + (n - next) ≤ n - from
        nothing u n next from h k = omega arith

    made : length (updates_among touches) + (own - d.next) ≤ own - from
    made = bound (is_update d.call) refl

    taken : face.share ≤ face_after.share + length (updates_among touches)
    taken = d.touches.made.share

    by_done : (b : Bool) → queue_of after ≡ after_delivery b (queue_of s) at d.next →
        face.share + (later + updates_left calls after.agent.pending after.touched) ≤
        face_after.share + (later + updates_left calls s.agent.pending s.touched)
    by_done true q =
        let left = left_removed s.stage.layout calls s.agent.pending s.touched at d.one sound.queue.each d.here in
        let now = ap (λ (x : Queue). updates_left calls x.pending x.touched) q in
        gone face.share face_after.share (length (updates_among touches)) own d.next from later
        (updates_left calls after.agent.pending after.touched)
        (updates_left calls (remove s.agent.pending at) (remove s.touched at))
        (updates_left calls s.agent.pending s.touched) taken made now left
      where
        gone : (share share' u n next from later now rest all : ℕ) → share ≤ share' + u → u + (n - next) ≤ n - from →
            now ≡ rest → all ≡ (n - from) + rest → share + (later + now) ≤ share' + (later + all)
        gone share share' u n next from later now rest all h k e l = omega arith
    by_done false q =
        let left = left_touched s.stage.layout calls s.agent.pending s.touched at d.next d.one sound.queue.each d.here
        in
        let now = ap (λ (x : Queue). updates_left calls x.pending x.touched) q in
        some face.share face_after.share (length (updates_among touches)) own d.next from later
        (updates_left calls after.agent.pending after.touched)
        (updates_left calls s.agent.pending (slice_set s.touched at d.next))
        (updates_left calls s.agent.pending s.touched) taken made now left
      where
        some : (share share' u n next from later now rest all : ℕ) → share ≤ share' + u → u + (n - next) ≤ n - from →
            now ≡ rest → all + (n - next) ≡ (n - from) + rest → share + (later + now) ≤ share' + (later + all)
        some share share' u n next from later now rest all h k e l = omega arith
