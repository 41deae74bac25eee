-- What is recorded of a rank's touches goes on with each of its steps.
use Rattle.std.proofs.Common.{◌≡◌, ℕ, zero, suc, ◌+◌, ◌-◌, ◌*◌, ◌/◌, ◌<◌, ◌≤◌, Bool, true, false, List, [], ◌∷◌, ◌++◌}
use Rattle.std.proofs.Common.{length, map, Option, Some, None, refl, sym, ◌∙◌, ap, subst, arith, append_assoc, append-nil}
use Rattle.std.specs.Prelude.{slice_get, slice_index}
use Rattle.std.specs.List.{AllByRecursion}
use Rattle.std.specs.Option.{option_map, option_map_or, option_and_then}
use Rattle.list_laws.proofs.Each.{each_weaker, each_append, each_at, each_removed, each_unmapped}
use Rattle.rma_types.specs.declared.accesses.Access.{Access}
use Rattle.rma_types.specs.declared.calls.Call.{Call}
use Rattle.rma_types.specs.declared.scripts.Layout.{Layout}
use Rattle.rma_types.specs.Datatypes.{size_of}
use Rattle.rma_record.specs.declared.items.Item.{Item}
use Rattle.rma_record.specs.declared.items.Item.TheVariants.{Entry}
use Rattle.call_rules.proofs.NumbersFrom.{got_number}
use Rattle.access_steps.proofs.PlanSteps.{quotient}
use Rattle.access_steps.specs.Plans.{PlannedTouch, element_count, planned_touch, planned_touches}
use Rattle.access_steps.specs.Plans.{IsAccessOf}
use Rattle.access_steps.specs.TouchesMade.{MadeTouch, TouchesKept, plan_of, item_of, updates_of, update_by}
use Rattle.agreement_laws.proofs.BoardItems.{AreItemsOfRows, NoItem, Quiet, Single, Double, board_adds}
use Rattle.board_rules.specs.Entries.{Row}
use Rattle.call_rules.specs.declared.cells.Cell.{Cell}
use Rattle.call_rules.specs.declared.elements.Piece.{Piece}
use Rattle.rma_types.specs.declared.actions.Transfer.{Transfer}
use Rattle.rma_types.specs.Actions.{transfer_of}
use Rattle.call_rules.specs.Layout.{cells_of}
use Rattle.call_rules.specs.Pieces.{piece_at, pieces, element_address}
use Rattle.call_rules.specs.Ranks.{natural}
use Rattle.call_rules.specs.Transfers.{change_of}
use Rattle.cell_face.specs.Faces.{Face, Keeps, cell_count}
use Rattle.delivery_queue.specs.Queues as queues
use Rattle.lawful_runs.specs.Accesses.{Touching, touches_among, change_made, issued_at}
use Rattle.lawful_runs.specs.Logs.{named_from, named_in}
use Rattle.lawful_runs.specs.Stages.{Stage, calls_at}
use Rattle.lawful_runs.specs.TouchLaw.{issues_touched}
use Rattle.rank_laws.proofs.Touching.{IsTouchOf, issued_still}
use Rattle.rank_rules.specs.declared.pending.PendingAccess.{PendingAccess}
use Rattle.step_histories.proofs.LogGrowth.{IsPlain, plain_same, plain_item, log_grows, below_touches}
use Rattle.step_histories.proofs.PlainMoves.{move_plain}
use Rattle.step_histories.specs.LogTouches.{touches_at, IsIssuedIn, HasIssues}
use Rattle.step_runs.specs.Agents.{Agent, new_agent}
use Rattle.step_runs.specs.BoardSteps.{board_step}
use Rattle.step_runs.specs.DataSteps.{move_of}
use Rattle.rank_histories.proofs.Parts.{planned_inside}
use Rattle.rank_histories.proofs.Touched.{IsItsAccess}
use Rattle.rank_histories.specs.Partly.{DeliversOn, queue_of}
use Rattle.rank_histories.specs.Recorded.{IsFound, IsRecorded, seen_by, updates_by}

-- ---- steps without touches

-- what is known stays known
pub found_still : (cells : ℕ) (knew knows : ℕ → Cell → Type 0) → Keeps knew knows → (touches : List Touching) →
    AllByRecursion (IsFound cells knew) touches → AllByRecursion (IsFound cells knows) touches
found_still cells knew knows keeps touches found =
    each_weaker (IsFound cells knew) (IsFound cells knows)
    (λ touch is. (is.0, keeps touch.cell (seen_by touch) is.1)) touches found

-- a step that touches nothing, and after which the memory tells the same updates
pub recorded_plain : (stage : Stage) (rank : ℕ) (agent next : Agent) (face after : Face)
    (knew knows : ℕ → Cell → Type 0) → IsRecorded stage rank agent face knew → IsPlain stage rank agent next →
    after.updates ≡ face.updates → Keeps knew knows → IsRecorded stage rank next after knows
recorded_plain stage rank agent next face after knew knows recorded plain same keeps = record {
  mine = plain.mine ∙ recorded.mine;
  issues = plain.issues;
  updates = same ∙ recorded.updates ∙ ap (λ (l : List Touching). Some (updates_by l)) (sym plain.touches);
  found = subst (AllByRecursion (IsFound (cells_of stage.layout) knows)) (sym plain.touches)
      (found_still (cells_of stage.layout) knew knows keeps (touches_at stage rank agent) recorded.found);
}

pub recorded_first : (stage : Stage) (seed rank : ℕ) (face : Face) (knows : ℕ → Cell → Type 0) →
    face.updates ≡ Some [] → IsRecorded stage rank (new_agent stage seed rank) face knows
recorded_first stage seed rank face knows none = record {
  mine = refl;
  issues = record { issued = tt; below = tt };
  updates = none;
  found = tt;
}

-- what a rank does by itself
pub recorded_move : (stage : Stage) (rank : ℕ) (agent : Agent) (face : Face) (knows : ℕ → Cell → Type 0) →
    IsRecorded stage rank agent face knows → IsRecorded stage rank (move_of stage agent).agent face knows
recorded_move stage rank agent face knows recorded =
    recorded_plain stage rank agent (move_of stage agent).agent face face knows knows recorded
    (move_plain stage rank agent recorded.mine recorded.issues) refl (λ cell seen known. known)

-- ---- a step at the board

items_plain : (stage : Stage) (rank : ℕ) (agent next : Agent) (at : ℕ) (items : List Item) (more : List Row) →
    HasIssues stage rank agent → AreItemsOfRows at items more → next.rank ≡ agent.rank →
    next.log ≡ agent.log ++ items → next.pending ≡ agent.pending → IsPlain stage rank agent next
items_plain stage rank agent next at _ _ has NoItem mine log pending =
    plain_same stage rank agent next has mine (log ∙ append-nil agent.log) pending
items_plain stage rank agent next at _ _ has (Quiet item plain other) mine log pending =
    plain_item stage rank agent next item has plain mine log pending
items_plain stage rank agent next at _ _ has (Single row) mine log pending =
    plain_item stage rank agent next (Entry row.number at row.step) has refl mine log pending
items_plain stage rank agent next at _ _ has (Double first second later e leaves) mine log pending =
    let item = Entry first.number at first.step in
    let other = Entry second.number later second.step in
    let between : Agent = record agent { log = agent.log ++ item ∷ [] } in
    let one = plain_item stage rank agent between item has refl refl refl refl in
    let two = plain_item stage rank between next other one.issues refl mine
    (log ∙ sym (append_assoc agent.log (item ∷ []) (other ∷ []))) pending in
    record { mine = two.mine; touches = two.touches ∙ one.touches; issues = two.issues }

pub recorded_at_board : (stage : Stage) (rank : ℕ) (agent : Agent) (rows : List Row) (face after : Face)
    (knew knows : ℕ → Cell → Type 0) → IsRecorded stage rank agent face knew → after.updates ≡ face.updates →
    Keeps knew knows → IsRecorded stage rank (board_step stage agent rows).agent after knows
recorded_at_board stage rank agent rows face after knew knows recorded same keeps =
    let adds = board_adds stage agent rows in
    recorded_plain stage rank agent (board_step stage agent rows).agent face after knew knows recorded
    (items_plain stage rank agent (board_step stage agent rows).agent (length rows) adds.items adds.more
    recorded.issues adds.are adds.mine adds.log adds.pending) same keeps

-- ---- touches of an access

abbrev piece_by : Option Transfer → Layout → Access → ℕ → Piece
piece_by o layout access element = piece_at layout access.target
    (access.lo + element * option_map_or (λ (t : Transfer). size_of t.dtype) o 1)

change_by_transfer : (o : Option Transfer) (layout : Layout) (access : Access) (element : ℕ) → IsItsAccess o access →
    element < option_map_or (λ (t : Transfer). natural t.count) o 0 →
    option_map_or (λ (t : Transfer). option_map_or (λ (piece : Piece). change_of t element piece.first_byte)
    (slice_get (pieces layout access t.dtype) element) None) o None
    ≡ option_and_then (λ (t : Transfer). change_of t element (piece_by o layout access element).first_byte) o
change_by_transfer None layout access element its below = absurd (omega (arith, below))
change_by_transfer (Some t) layout access element its below =
    let count : access.len / size_of t.dtype ≡ natural t.count =
    ap (λ (n : ℕ). n / size_of t.dtype) its.1 ∙ quotient t.dtype (natural t.count) in
    let f : ℕ → Piece = λ element. piece_at layout access.target (element_address access t.dtype element) in
    let zeroth : 0 + element ≡ element = omega arith in
    ap (λ (o : Option Piece). option_map_or (λ (piece : Piece). change_of t element piece.first_byte) o None)
    (got_number f 0 (access.len / size_of t.dtype) element (omega (arith, count, below))
    ∙ ap (λ n. Some (f n)) zeroth)

-- the change that a log tells of an element is the one that its touch was planned with
change_told : (stage : Stage) (rank : ℕ) (log : List Item) (one : PendingAccess) (call : Call) (element : ℕ) →
    IsIssuedIn stage rank log one → slice_get (calls_at stage rank) one.number ≡ Some call →
    IsAccessOf call one.access → element < element_count call →
    option_map_or (λ other. change_made stage.layout (calls_at stage rank) other element)
    (issued_at (calls_at stage rank) log one.index) None
    ≡ (planned_touch stage.layout one.access call element).change
change_told stage rank log one call element issued named its below =
    let calls = calls_at stage rank in
    ap (λ (o : Option PendingAccess). option_map_or (λ other. change_made stage.layout calls other element) o None)
    issued
    ∙ ap (λ (o : Option Call). option_map_or (λ (t : Transfer). option_map_or
    (λ (piece : Piece). change_of t element piece.first_byte) (slice_get (pieces stage.layout one.access t.dtype)
    element) None) (option_map_or transfer_of o None) None) named
    ∙ change_by_transfer (transfer_of call) stage.layout one.access element its below

-- the touches that the items of made touches are, in a log in which their access is issued
module _ (stage : Stage) (rank : ℕ) (log : List Item) (one : PendingAccess) (call : Call) (cells : ℕ)
    (knows : ℕ → Cell → Type 0) (issued : IsIssuedIn stage rank log one)
    (named : slice_get (calls_at stage rank) one.number ≡ Some call) (its : queues.IsOfCall stage.layout cells one call)
  where
    abbrev among : ℕ → List MadeTouch → List Touching
    among index touches =
        touches_among stage.layout (calls_at stage rank) log (named_from rank index (map (item_of one.index) touches))

    among_updates : (index from count : ℕ) (touches : List MadeTouch) →
        map plan_of touches ≡ planned_touches stage.layout one.access call from count →
        from + count ≤ element_count call → updates_by (among index touches) ≡ updates_of touches
    among_updates index from zero [] plans le = refl
    among_updates index from zero (touch ∷ touches) plans le = absurd (cc plans)
    among_updates index from (suc count) [] plans le = absurd (cc plans)
    among_updates index from (suc count) (touch ∷ touches) plans le =
        let here : touch.plan ≡ planned_touch stage.layout one.access call from = cc plans in
        let rest : map plan_of touches ≡ planned_touches stage.layout one.access call (from + 1) count = cc plans in
        let element : touch.plan.element ≡ from = ap (λ (p : PlannedTouch). p.element) here in
        let told = change_told stage rank log one call from issued named its.1 (omega (arith, le)) in
        let change : option_map_or (λ other. change_made stage.layout (calls_at stage rank) other touch.plan.element)
        (issued_at (calls_at stage rank) log one.index) None ≡ touch.plan.change =
        ap (λ n. option_map_or (λ other. change_made stage.layout (calls_at stage rank) other n)
        (issued_at (calls_at stage rank) log one.index) None) element ∙ told
        ∙ ap (λ (p : PlannedTouch). p.change) (sym here) in
        ap (λ c. update_by touch.plan.cell touch.seen c ++ updates_by (among (index + 1) touches)) change
        ∙ ap (λ l. update_by touch.plan.cell touch.seen touch.plan.change ++ l)
        (among_updates (index + 1) (from + 1) count touches rest (omega (arith, le)))

    among_found : (index : ℕ) (touches : List MadeTouch) →
        AllByRecursion (λ (touch : MadeTouch). touch.plan.cell < cells) touches →
        AllByRecursion (λ (touch : MadeTouch). knows touch.plan.cell touch.seen) touches →
        AllByRecursion (IsFound cells knows) (among index touches)
    among_found index [] inside states = tt
    among_found index (touch ∷ touches) inside states =
        ((inside.0, states.0), among_found (index + 1) touches inside.1 states.1)

pub joined_updates : (xs ys : List Touching) → updates_by (xs ++ ys) ≡ updates_by xs ++ updates_by ys
joined_updates [] ys = refl
joined_updates (touch ∷ xs) ys =
    ap (λ l. update_by touch.cell (seen_by touch) touch.change ++ l) (joined_updates xs ys)
    ∙ sym (append_assoc (update_by touch.cell (seen_by touch) touch.change) (updates_by xs) (updates_by ys))

items_of_access : (issue : ℕ) (touches : List MadeTouch) →
    AllByRecursion (IsTouchOf issue) (map (item_of issue) touches)
items_of_access issue [] = tt
items_of_access issue (touch ∷ touches) = (refl, items_of_access issue touches)

-- the rank's log goes on with touches of a pending access, and what is pending is as before or less
record IsTouchedOn (stage : Stage) (agent after : Agent) (face face_after : Face) (knows : ℕ → Cell → Type 0)
    : Type 1 where
  one : PendingAccess
  at : ℕ
  call : Call
  here : slice_get agent.pending at ≡ Some one
  named : slice_get (calls_at stage agent.rank) one.number ≡ Some call
  its : queues.IsOfCall stage.layout (cells_of stage.layout) one call
  from : ℕ
  count : ℕ
  within : from + count ≤ element_count call
  same : after.rank ≡ agent.rank
  touches : TouchesKept face face_after knows agent.log after.log one.index
      (planned_touches stage.layout one.access call from count)
  pending : (P : PendingAccess → Type 0) → AllByRecursion P agent.pending → AllByRecursion P after.pending

recorded_touches : (stage : Stage) (rank : ℕ) (agent after : Agent) (face face_after : Face)
    (knew knows : ℕ → Cell → Type 0) → IsRecorded stage rank agent face knew → Keeps knew knows →
    IsTouchedOn stage agent after face face_after knows → IsRecorded stage rank after face_after knows
recorded_touches stage rank agent after face face_after knew knows recorded keeps on = record {
  mine = on.same ∙ recorded.mine;
  issues = record {
    issued = on.pending (IsIssuedIn stage rank after.log)
        (each_weaker (IsIssuedIn stage rank agent.log) (IsIssuedIn stage rank after.log)
        (λ other is. subst (λ l. IsIssuedIn stage rank l other) (sym on.touches.items)
        (issued_still calls agent.log items other.index other is)) agent.pending recorded.issues.issued);
    below = subst (λ (l : List Item). AllByRecursion (λ n. n < length l) (issues_touched l)) (sym on.touches.items)
        (below_touches stage rank agent.log items on.one issued (items_of_access on.one.index on.touches.touches)
        recorded.issues.below);
  };
  updates = on.touches.made.updates
      ∙ ap (option_map (λ made. made ++ updates_of on.touches.touches)) recorded.updates
      ∙ ap Some (ap (λ l. updates_by old ++ l) (sym news)
      ∙ sym (joined_updates old new) ∙ ap updates_by (sym grown));
  found = subst (AllByRecursion (IsFound cells knows)) (sym grown)
      (each_append (IsFound cells knows) old new (found_still cells knew knows keeps old recorded.found)
      (among_found stage rank longer on.one on.call cells knows still named on.its (0 + length agent.log)
      on.touches.touches inside on.touches.states));
}
  where
    calls : List Call
    calls = calls_at stage rank

    cells : ℕ
    cells = cells_of stage.layout

    items : List Item
    items = map (item_of on.one.index) on.touches.touches

    longer : List Item
    longer = agent.log ++ items

    named : slice_get calls on.one.number ≡ Some on.call
    named = ap (λ r. slice_get (calls_at stage r) on.one.number) (sym recorded.mine) ∙ on.named

    issued : IsIssuedIn stage rank agent.log on.one
    issued = each_at (IsIssuedIn stage rank agent.log) agent.pending on.at on.one recorded.issues.issued on.here

    still : IsIssuedIn stage rank longer on.one
    still = issued_still calls agent.log items on.one.index on.one issued

    old : List Touching
    old = touches_at stage rank agent

    new : List Touching
    new = touches_among stage.layout calls longer (named_from rank (0 + length agent.log) items)

    grown : touches_at stage rank after ≡ old ++ new
    grown = ap (λ l. touches_among stage.layout calls l (named_in rank l)) on.touches.items
        ∙ log_grows stage.layout calls rank agent.log items recorded.issues.below

    news : updates_by new ≡ updates_of on.touches.touches
    news = among_updates stage rank longer on.one on.call cells knows still named on.its (0 + length agent.log) on.from
        on.count on.touches.touches on.touches.plans on.within

    inside : AllByRecursion (λ (touch : MadeTouch). touch.plan.cell < cells) on.touches.touches
    inside = each_unmapped (λ (p : PlannedTouch). p.cell < cells) plan_of on.touches.touches
        (subst (AllByRecursion (λ (p : PlannedTouch). p.cell < cells)) (sym on.touches.plans)
        (planned_inside stage on.one on.call cells on.from on.count on.its.2 on.within))

-- a delivery, done or not
pub recorded_delivery : (stage : Stage) (rank : ℕ) (agent : Agent) (touched : List ℕ) (face : Face) (at : ℕ)
    (done : Bool) (after : Agent) (touched_after : List ℕ) (face_after : Face) (knew knows : ℕ → Cell → Type 0) →
    IsRecorded stage rank agent face knew → cell_count face ≡ cells_of stage.layout → Keeps knew knows →
    DeliversOn stage agent touched face at done after touched_after face_after knows →
    IsRecorded stage rank after face_after knows
recorded_delivery stage rank agent touched face at done after touched_after face_after knew knows recorded room keeps
    on =
    let made = on.delivers in
    let from = slice_index touched at in
    let begun = made.begun in
    let within = made.within in
    recorded_touches stage rank agent after face face_after knew knows recorded keeps (record {
      one = made.one;
      at = at;
      call = made.call;
      here = made.here;
      named = made.named;
      its = subst (λ n. queues.IsOfCall stage.layout n made.one made.call) room made.is_its;
      from = from;
      count = made.next - from;
      within = omega (arith, begun, within);
      same = ap (λ (a : Agent). a.rank) on.rank;
      touches = made.touches;
      pending = λ P all. left P all done made.queue_after;
    })
  where
    left : (P : PendingAccess → Type 0) → AllByRecursion P agent.pending → (b : Bool) →
        queue_of after touched_after ≡ queues.after_delivery b (queue_of agent touched) at on.delivers.next →
        AllByRecursion P after.pending
    left P all true e = subst (AllByRecursion P) (sym (ap (λ (q : queues.Queue). q.pending) e))
        (each_removed P agent.pending at all)
    left P all false e = subst (AllByRecursion P) (sym (ap (λ (q : queues.Queue). q.pending) e)) all
