-- A step without the board is a path of moves.
use Rattle.std.proofs.Common.{◌≡◌, ℕ, suc, ◌⊎◌, inl, inr, Bool, true, false, not, ◌&&◌, cond, eqb, List, [], ◌∷◌, ◌++◌}
use Rattle.std.proofs.Common.{length, Option, Some, None, refl, sym, ◌∙◌, ap, subst, arith, append-nil}
use Rattle.std.specs.Prelude.{slice_get, nat_lt, ◌%◌, ◌/◌, ◌==◌}
use Rattle.std.specs.List.{position}
use Rattle.std.specs.Option.{option_map_or}
use Rattle.std.proofs.lemmas.Bool.{ltb-false, ne_eqb}
use Rattle.list_laws.proofs.Lists.{get_last, last_removed}
use Rattle.list_laws.proofs.Truths.{both_left}
use Rattle.rma_types.specs.declared.accesses.Access.{Access}
use Rattle.rma_types.specs.declared.calls.Call.{Call}
use Rattle.rma_types.specs.declared.classes.Class.{Class}
use Rattle.rma_types.specs.declared.dtypes.Dtype.{Dtype}
use Rattle.rma_types.specs.declared.dtypes.Dtype.TheVariants.{Int8, Int16, Int32, Uint8, Uint16, Uint32, Byte}
use Rattle.rma_types.specs.Datatypes.{size_of}
use Rattle.rma_record.specs.declared.items.Item.{Item}
use Rattle.rma_record.specs.declared.items.Item.TheVariants.{Issue, Null, Flush, Request, Ended}
use Rattle.board_rules.specs.Entries.{Row}
use Rattle.rma_types.specs.declared.actions.Transfer.{Transfer}
use Rattle.rma_types.specs.Actions.{transfer_of}
use Rattle.call_rules.specs.Pieces.{pieces}
use Rattle.lawful_runs.specs.Accesses.{transfer_at}
use Rattle.lawful_runs.specs.Stages.{Stage, calls_at}
use Rattle.rank_laws.proofs.Moves.{point, course_at, Begins, IsPlainItem, Issuing, IsDrawn, IsAwaited, IsAtEnd}
use Rattle.rank_laws.proofs.Moves.{IsClosed, IsDue, issued_whole, Move, Rises, Ends, RefusesAlone, Passes, Issues}
use Rattle.rank_laws.proofs.Moves.{IssuesWhole, Draws, Delivers as DeliversOne, Path, one_move, paths_join}
use Rattle.rank_laws.proofs.Ways.{way_is_free, first_is_free}
use Rattle.rank_laws.specs.Deliveries.{AreTouches, AreTouchesOf, IsDelivered}
use Rattle.rank_laws.specs.Fronts.{Lows, AreAtMost}
use Rattle.rank_laws.specs.Lives.{IsMade}
use Rattle.rank_rules.specs.Courses.{Course, OneNull, OneIssue, LookUpAndIssue, OneFlush, OneRequest, ArriveAndLeave}
use Rattle.rank_rules.specs.Courses.{EntryOrTested, OneEntry, access_of}
use Rattle.rank_rules.specs.Knowledge.{own_class}
use Rattle.rank_rules.specs.Pending.{way, first_in_way, must_wait}
use Rattle.rank_rules.specs.declared.pending.PendingAccess.{PendingAccess}
use Rattle.step_runs.specs.Agents.{Agent, next_call, has_pending, must_draw, is_seeded, awaited_by, keep_item}
use Rattle.step_runs.specs.DataSteps.{no_shapes, just_delivers, without_delivery, with_item, with_issue, is_at_once}
use Rattle.step_runs.specs.DataSteps.{issue_of, issue, draw, first_item, wait_or_go_on, judge, begin, go_on, end}
use Rattle.step_runs.specs.DataSteps.{move_of}
use Rattle.step_runs.specs.Generator.{next_state, drawn_from}

-- nothing else is done, and lows may rise
still_path : (drains : Bool) (stage : Stage) (agent next : Agent) (rows : List Row) (lows after : Lows) →
    (next ≡ agent) × AreAtMost lows after →
    Path drains stage (point agent rows lows) (point next rows after)
still_path drains stage agent next rows lows after h =
    subst (λ (a : Agent). Path drains stage (point agent rows lows) (point a rows after)) (sym h.0)
    (one_move drains stage (point agent rows lows) _ (Rises after h.1))

-- a move, and then nothing but that lows may rise
moved_path : (drains : Bool) (stage : Stage) (agent middle next : Agent) (rows : List Row) (lows after : Lows) →
    Move drains stage (point agent rows lows) (point middle rows lows) →
    (next ≡ middle) × AreAtMost lows after → Path drains stage (point agent rows lows) (point next rows after)
moved_path drains stage agent middle next rows lows after move h =
    paths_join drains stage (point agent rows lows) (point middle rows lows) (point next rows after)
    (one_move drains stage (point agent rows lows) (point middle rows lows) move)
    (still_path drains stage middle next rows lows after h)

-- a delivery
pub delivery_path : (drains : Bool) (stage : Stage) (agent next : Agent) (rows : List Row) (lows after : Lows)
    (at : ℕ) →
    IsDue drains stage agent at → (o : Option PendingAccess) →
    slice_get agent.pending at ≡ o → IsDelivered stage agent at o lows next after →
    Path drains stage (point agent rows lows) (point next rows after)
delivery_path drains stage agent next rows lows after at due None e h =
    still_path drains stage agent next rows lows after h
delivery_path drains stage agent next rows lows after at due (Some one) e h =
    subst (λ (a : Agent). Path drains stage (point agent rows lows) (point a rows after)) (sym h.2)
    (one_move drains stage (point agent rows lows) _ (DeliversOne at one h.0 after e due h.1))

-- ---- the end of the calls

closed_past : (stage : Stage) (agent : Agent) → next_call stage agent ≡ None → IsClosed stage agent
closed_past stage agent none call here e = absurd (cc (sym none ∙ here))

closed_new : (stage : Stage) (agent : Agent) → agent.entered ≡ false → IsClosed stage agent
closed_new stage agent new call here e = absurd (cc (sym new ∙ e))

ends_path : (drains : Bool) (stage : Stage) (agent next : Agent) (rows : List Row) (lows after : Lows) →
    next_call stage agent ≡ None → agent.pending ≡ [] → (b : Bool) → agent.ended ≡ b →
    IsMade stage (cond b (without_delivery agent) (without_delivery
    (record (keep_item no_shapes stage agent Ended) { ended = true }))) lows next after →
    Path drains stage (point agent rows lows) (point next rows after)
ends_path drains stage agent next rows lows after none empty true e made =
    still_path drains stage agent next rows lows after made
ends_path drains stage agent next rows lows after none empty false e made =
    moved_path drains stage agent _ next rows lows after
    (Ends none empty e) made

end_path : (drains : Bool) (stage : Stage) (agent next : Agent) (rows : List Row) (lows after : Lows) →
    next_call stage agent ≡ None →
    (pending : List PendingAccess) → agent.pending ≡ pending →
    IsMade stage (cond (not (eqb (length pending) 0)) (just_delivers agent 0)
    (cond agent.ended (without_delivery agent) (without_delivery
    (record (keep_item no_shapes stage agent Ended) { ended = true })))) lows next after →
    Path drains stage (point agent rows lows) (point next rows after)
end_path drains stage agent next rows lows after none [] e made =
    ends_path drains stage agent next rows lows after none e
    agent.ended refl made
end_path drains stage agent next rows lows after none (one ∷ rest) e made =
    let due : IsDue drains stage agent 0 = record {
      closed = closed_past stage agent none;
      free = first_is_free agent.pending;
      reason = IsAtEnd none refl;
    } in
    delivery_path drains stage agent next rows lows after 0 due (slice_get agent.pending 0) refl
    (delivers_if (eqb (suc (length rest)) 0) (ne_eqb (suc (length rest)) 0 (λ e. absurd (omega arith))) made)
  where
    delivers_if : (b : Bool) → b ≡ false → IsMade stage (cond (not b) (just_delivers agent 0)
        (cond agent.ended (without_delivery agent) (without_delivery
        (record (keep_item no_shapes stage agent Ended) { ended = true })))) lows next after →
        IsDelivered stage agent 0 (slice_get agent.pending 0) lows next after
    delivers_if true e made = absurd (cc e)
    delivers_if false e made = made

-- ---- Issues

-- an access without bytes has no pieces
no_elements : (dtype : Dtype) → 0 / size_of dtype ≡ 0
no_elements Int8 = refl
no_elements Int16 = refl
no_elements Int32 = refl
no_elements Uint8 = refl
no_elements Uint16 = refl
no_elements Uint32 = refl
no_elements Byte = refl

pub no_pieces : (stage : Stage) (access : Access) (t : Transfer) → access.len ≡ 0 →
    pieces stage.layout access t.dtype ≡ []
no_pieces stage access t e = rw e (rw (no_elements t.dtype) refl)

get_none : {X : Type 0} (xs : List X) → slice_get (xs ++ []) (length xs) ≡ None
get_none [] = refl
get_none (y ∷ ys) = get_none ys

-- the transfer of the rank's call
pub its_transfer : (stage : Stage) (agent : Agent) (call : Call) (t : Transfer) → next_call stage agent ≡ Some call →
    transfer_of call ≡ Some t → transfer_at (calls_at stage agent.rank) agent.at ≡ Some t
its_transfer stage agent call t here moves = rw here moves

-- an access that is made pending and then delivered
at_once_path : (drains : Bool) (stage : Stage) (agent next : Agent) (rows : List Row) (lows after : Lows)
    (call : Call) (t : Transfer)
    (access : Access) → Issuing stage agent call t access →
    is_at_once stage.delay access ≡ true → (b : Bool) → nat_lt 0 access.len ≡ b →
    (let one : PendingAccess = record {
      index = length agent.log;
      number = agent.at;
      access = access;
      fetches = t.fetches;
    } in
    let issued = with_item stage agent (Issue agent.at access) in
    let now = record issued { pending = issued.pending ++ cond b (one ∷ []) [] } in
    IsDelivered stage now (length agent.pending) (slice_get (agent.pending ++ cond b (one ∷ []) [])
    (length agent.pending)) lows next after) →
    Path drains stage (point agent rows lows) (point next rows after)
at_once_path drains stage agent next rows lows after call t access issuing once true e made =
    let one : PendingAccess = record {
      index = length agent.log;
      number = agent.at;
      access = access;
      fetches = t.fetches;
    } in
    let issued = with_item stage agent (Issue agent.at access) in
    let now = record issued { pending = issued.pending ++ one ∷ [] } in
    let is : IsDelivered stage now (length agent.pending) (Some one) lows next after = subst
    (λ (o : Option PendingAccess). IsDelivered stage now (length agent.pending) o lows next after)
    (get_last agent.pending one) made in
    let touches : AreTouches t (length agent.log) 0 (pieces stage.layout access t.dtype) lows is.0 after =
    subst (λ (o : Option Transfer). AreTouchesOf stage one o lows is.0 after)
    (its_transfer stage agent call t issuing.here issuing.moves) is.1 in
    let same : next ≡ issued_whole stage agent access is.0 = is.2
    ∙ ap (λ (p : List PendingAccess). record (issued_whole stage agent access is.0) { pending = p })
    (last_removed agent.pending one) in
    subst (λ (a : Agent). Path drains stage (point agent rows lows) (point a rows after)) (sym same)
    (one_move drains stage (point agent rows lows) _ (IssuesWhole call t access is.0 after issuing once touches))
at_once_path drains stage agent next rows lows after call t access issuing once false e made =
    let issued = with_item stage agent (Issue agent.at access) in
    let now = record issued { pending = issued.pending ++ [] } in
    let is : IsDelivered stage now (length agent.pending) None lows next after = subst
    (λ (o : Option PendingAccess). IsDelivered stage now (length agent.pending) o lows next after)
    (get_none agent.pending) made in
    let low = ltb-false 0 access.len e in
    let none = no_pieces stage access t (omega arith) in
    let touches : AreTouches t (length agent.log) 0 (pieces stage.layout access t.dtype) lows [] after =
    subst (λ places. AreTouches t (length agent.log) 0 places lows [] after) (sym none) (refl, is.1) in
    let same : next ≡ issued_whole stage agent access [] = is.0
    ∙ ap (λ (p : List PendingAccess). record issued { pending = p }) (append-nil agent.pending)
    ∙ ap (λ (l : List Item). record issued { log = l }) (sym (append-nil issued.log)) in
    subst (λ (a : Agent). Path drains stage (point agent rows lows) (point a rows after)) (sym same)
    (one_move drains stage (point agent rows lows) _ (IssuesWhole call t access [] after issuing once touches))

-- an Issue, whether its access is touched at once or not
issue_path : (drains : Bool) (stage : Stage) (agent next : Agent) (rows : List Row) (lows after : Lows) (call : Call)
    (t : Transfer)
    (access : Access) → Issuing stage agent call t access →
    (b : Bool) → is_at_once stage.delay access ≡ b →
    IsMade stage (record {
      agent = with_issue stage agent access t;
      delivers = cond b (Some (length agent.pending)) None;
    }) lows next after →
    Path drains stage (point agent rows lows) (point next rows after)
issue_path drains stage agent next rows lows after call t access issuing true e made =
    at_once_path drains stage agent next rows
    lows after call t access issuing e (nat_lt 0 access.len) refl made
issue_path drains stage agent next rows lows after call t access issuing false e made =
    moved_path drains stage agent _ next rows
    lows after (Issues call t access issuing e) made

-- an Issue, where the call has a transfer and an access
issues_path : (drains : Bool) (stage : Stage) (agent next : Agent) (rows : List Row) (lows after : Lows) (call : Call) →
    next_call stage agent ≡ Some call →
    ((Begins stage agent call × (course_at agent call ≡ OneIssue)) ⊎ (agent.entered ≡ true)) →
    IsMade stage (issue stage agent call) lows next after →
    Path drains stage (point agent rows lows) (point next rows after)
issues_path drains stage agent next rows lows after call here begun made =
    elim (transfer_of call) as (λ (o : Option Transfer). transfer_of call ≡ o →
    IsMade stage (option_map_or (λ t. option_map_or (issue_of stage agent t) (access_of agent.known.windows call)
    (without_delivery agent)) o (without_delivery agent)) lows next after →
    Path drains stage (point agent rows lows) (point next rows after)) [
      | None ↦ λ moves is. still_path drains stage agent next rows lows after is
      | Some t ↦ λ moves is.
          elim (access_of agent.known.windows call) as (λ (o : Option Access). access_of agent.known.windows call
          ≡ o →
          IsMade stage (option_map_or (issue_of stage agent t) o (without_delivery agent)) lows next after →
          Path drains stage (point agent rows lows) (point next rows after)) [
            | None ↦ λ none it. still_path drains stage agent next rows lows after it
            | Some access ↦ λ some it.
                issue_path drains stage agent next rows lows after call t access
                (record { here = here; moves = moves; reaches = some; begun = begun })
                (is_at_once stage.delay access) refl it
          ] refl is
    ] refl made

-- ---- calls

item_path : (drains : Bool) (stage : Stage) (agent next : Agent) (rows : List Row) (lows after : Lows) (call : Call) →
    Begins stage agent call → (course : Course) → course_at agent call ≡ course →
    IsMade stage (first_item course stage agent call) lows next after →
    Path drains stage (point agent rows lows) (point next rows after)
item_path drains stage agent next rows lows after call begins OneNull is made =
    moved_path drains stage agent _ next rows lows after (Passes call (Null agent.at) begins
    (subst (λ (c : Course). IsPlainItem c agent.at (Null agent.at)) (sym is) refl)) made
item_path drains stage agent next rows lows after call begins OneIssue is made =
    issues_path drains stage agent next rows lows after
    call begins.here (inl (begins, is)) made
item_path drains stage agent next rows lows after call begins LookUpAndIssue is made =
    still_path drains stage agent next rows lows
    after made
item_path drains stage agent next rows lows after call begins OneFlush is made =
    moved_path drains stage agent _ next rows lows after (Passes call (Flush agent.at) begins
    (subst (λ (c : Course). IsPlainItem c agent.at (Flush agent.at)) (sym is) refl)) made
item_path drains stage agent next rows lows after call begins OneRequest is made =
    moved_path drains stage agent _ next rows lows after (Passes call (Request agent.at) begins
    (subst (λ (c : Course). IsPlainItem c agent.at (Request agent.at)) (sym is) refl)) made
item_path drains stage agent next rows lows after call begins ArriveAndLeave is made =
    still_path drains stage agent next rows lows
    after made
item_path drains stage agent next rows lows after call begins EntryOrTested is made =
    still_path drains stage agent next rows lows
    after made
item_path drains stage agent next rows lows after call begins OneEntry is made =
    still_path drains stage agent next rows lows after
    made

-- what is awaited is the end of a way
awaited_free : (agent : Agent) (call : Call) (at : ℕ) → awaited_by agent call ≡ Some at →
    first_in_way agent.pending at ≡ None
awaited_free agent call at e =
    elim (position (must_wait agent.known.requests call) agent.pending) as
    (λ (o : Option ℕ). option_map_or (λ n. Some (way agent.pending n)) o None ≡ Some at →
    first_in_way agent.pending at ≡ None) [
      | None ↦ λ none. absurd (cc none)
      | Some n ↦ λ some. let same : way agent.pending n ≡ at = cc some in subst
          (λ m. first_in_way agent.pending m ≡ None) same (way_is_free agent.pending n)
    ] e

wait_path : (drains : Bool) (stage : Stage) (agent next : Agent) (rows : List Row) (lows after : Lows) (call : Call) →
    next_call stage agent ≡ Some call → agent.entered ≡ false →
    own_class agent.known call ≡ None → (o : Option ℕ) → awaited_by agent call ≡ o →
    IsMade stage (wait_or_go_on o stage agent call) lows next after →
    Path drains stage (point agent rows lows) (point next rows after)
wait_path drains stage agent next rows lows after call here new passes None e made =
    item_path drains stage agent next rows lows after call
    (record { here = here; new = new; passes = passes; awaits = e })
    (course_at agent call) refl made
wait_path drains stage agent next rows lows after call here new passes (Some at) e made =
    let due : IsDue drains stage agent at = record {
      closed = closed_new stage agent new;
      free = awaited_free agent call at e;
      reason = IsAwaited call here new passes e;
    } in
    delivery_path drains stage agent next rows lows after at due (slice_get agent.pending at) refl made

judge_path : (drains : Bool) (stage : Stage) (agent next : Agent) (rows : List Row) (lows after : Lows) (call : Call) →
    next_call stage agent ≡ Some call → agent.entered ≡ false →
    (o : Option Class) → own_class agent.known call ≡ o →
    IsMade stage (judge o stage agent call) lows next after →
    Path drains stage (point agent rows lows) (point next rows after)
judge_path drains stage agent next rows lows after call here new None e made =
    wait_path drains stage agent next rows lows after
    call here new e (awaited_by agent call) refl made
judge_path drains stage agent next rows lows after call here new (Some class) e made =
    moved_path drains stage agent _ next rows
    lows after (RefusesAlone call class here new e) made

-- a draw, and then perhaps a delivery
draw_path : (drains : Bool) (stage : Stage) (agent next : Agent) (rows : List Row) (lows after : Lows) →
    agent.entered ≡ false →
    is_seeded stage.delay ≡ true → (b : Bool) →
    (let state = next_state agent.draws in
    IsMade stage (record {
      agent = record agent { drawn = true; draws = state };
      delivers = cond b (Some (way agent.pending (drawn_from state / 2 % length agent.pending))) None;
    }) lows next
    after) →
    Path drains stage (point agent rows lows) (point next rows after)
draw_path drains stage agent next rows lows after new seeded true made =
    let state = next_state agent.draws in
    let drawn : Agent = record agent { drawn = true; draws = state } in
    let at = way agent.pending (drawn_from state / 2 % length agent.pending) in
    let due : IsDue drains stage drawn at = record {
      closed = closed_new stage drawn new;
      free = way_is_free agent.pending (drawn_from state / 2 % length agent.pending);
      reason = IsDrawn seeded;
    } in
    paths_join drains stage (point agent rows lows) (point drawn rows lows) (point next rows after)
    (one_move drains stage (point agent rows lows) (point drawn rows lows) (Draws state new))
    (delivery_path drains stage drawn next rows lows after at due (slice_get agent.pending at) refl made)
draw_path drains stage agent next rows lows after new seeded false made =
    moved_path drains stage agent _ next rows lows after
    (Draws (next_state agent.draws) new) made

begin_path : (drains : Bool) (stage : Stage) (agent next : Agent) (rows : List Row) (lows after : Lows) (call : Call) →
    next_call stage agent ≡ Some call → agent.entered ≡ false →
    (b : Bool) → must_draw stage agent ≡ b →
    IsMade stage (cond b (draw agent) (judge (own_class agent.known call) stage agent call)) lows next after →
    Path drains stage (point agent rows lows) (point next rows after)
begin_path drains stage agent next rows lows after call here new true e made =
    let seeded = both_left (is_seeded stage.delay) (not agent.drawn)
    (both_left (is_seeded stage.delay && not agent.drawn) (has_pending agent) e) in
    draw_path drains stage agent next rows lows after new seeded (drawn_from (next_state agent.draws) % 2 == 1) made
begin_path drains stage agent next rows lows after call here new false e made =
    judge_path drains stage agent next rows lows after
    call here new (own_class agent.known call) refl made

call_path : (drains : Bool) (stage : Stage) (agent next : Agent) (rows : List Row) (lows after : Lows) (call : Call) →
    next_call stage agent ≡ Some call → (b : Bool) → agent.entered ≡ b →
    IsMade stage (cond b (issue stage agent call) (begin stage agent call)) lows next after →
    Path drains stage (point agent rows lows) (point next rows after)
call_path drains stage agent next rows lows after call here true e made =
    issues_path drains stage agent next rows lows after call
    here (inr e) made
call_path drains stage agent next rows lows after call here false e made =
    begin_path drains stage agent next rows lows after call
    here e (must_draw stage agent) refl made

-- a step without the board is a path
pub step_path : (drains : Bool) (stage : Stage) (agent next : Agent) (rows : List Row) (lows after : Lows) →
    IsMade stage (move_of stage agent) lows next after →
    Path drains stage (point agent rows lows) (point next rows after)
step_path drains stage agent next rows lows after made =
    elim (next_call stage agent) as (λ (o : Option Call). next_call stage agent ≡ o →
    IsMade stage (option_map_or (go_on stage agent) o (end stage agent)) lows next after →
    Path drains stage (point agent rows lows) (point next rows after)) [
      | None ↦ λ none is. end_path drains stage agent next rows lows after none agent.pending refl is
      | Some call ↦ λ here is. call_path drains stage agent next rows lows after call here agent.entered refl is
    ] refl made
