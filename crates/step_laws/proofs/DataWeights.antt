-- A step of a rank without the board lowers what is left of it, where the rank has not ended.
use Rattle.std.proofs.Common.{◌≡◌, ℕ, zero, suc, ◌+◌, ◌-◌, ◌*◌, ◌<◌, ◌≤◌, ◌⊎◌, inl, inr, Bool, true, false, cond, not}
use Rattle.std.proofs.Common.{List, [], ◌∷◌, ◌++◌, length, Option, Some, None, refl, sym, ◌∙◌, ap, subst, arith}
use Rattle.std.proofs.Common.{length-append}
use Rattle.std.specs.Prelude.{◌&&◌, ◌==◌, nat_lt, is_none, slice_get}
use Rattle.std.specs.Option.{option_map_or}
use Rattle.std.proofs.lemmas.Bool.{and_parts, not-true, eqb-true}
use Rattle.rma_types.specs.declared.accesses.Access.{Access}
use Rattle.rma_types.specs.declared.calls.Call.{Call}
use Rattle.rma_types.specs.declared.classes.Class.{Class}
use Rattle.rma_record.specs.declared.items.Item.{Item}
use Rattle.rma_record.specs.declared.items.Item.TheVariants.{Null, Flush, Request, Refused, Ended}
use Rattle.call_rules.specs.declared.cells.Cell.{Cell}
use Rattle.rma_types.specs.declared.actions.Transfer.{Transfer}
use Rattle.rma_types.specs.Actions.{transfer_of}
use Rattle.lawful_runs.specs.Stages.{Stage, calls_at}
use Rattle.rank_rules.specs.Courses.{Course, OneNull, OneIssue, LookUpAndIssue, OneFlush, OneRequest, ArriveAndLeave}
use Rattle.rank_rules.specs.Courses.{EntryOrTested, OneEntry, course_of, has_entry, access_of}
use Rattle.rank_rules.specs.Knowledge.{Knowledge, own_class}
use Rattle.rank_rules.specs.declared.pending.PendingAccess.{PendingAccess}
use Rattle.step_runs.specs.Agents.{Agent, next_call, keep_item, end_call, has_pending, is_seeded, must_draw, awaited_by}
use Rattle.step_runs.specs.Agents.{begins_with_entry, tries_entry}
use Rattle.step_runs.specs.DataSteps.{OnMemory, with_delivery, deliver, Move, just_delivers, without_delivery}
use Rattle.step_runs.specs.DataSteps.{no_shapes, with_item, made_pending, with_issue, issue_of, issue, draw, first_item}
use Rattle.step_runs.specs.DataSteps.{wait_or_go_on, judge, begin, go_on, end, move_of, deliver_if, data_step}
use Rattle.step_laws.proofs.EntryMoves.{HasBegun, IsTwofold}
use Rattle.step_laws.proofs.OwnTests.{HasIssue, transfer_with_issue, allowed_has_access}
use Rattle.step_laws.proofs.Weights.{weight, weight_of, IsFinished, finished_falls, issued_falls, delivery_falls}
use Rattle.step_laws.proofs.Weights.{delivery_no_more, awaited_within, with_delivery_is}

-- less is left, or a pending access will be delivered
abbrev pub LowersOrDelivers : Stage → Agent → Move → Type 0
LowersOrDelivers stage agent move =
    (weight_of stage move.agent < weight_of stage agent)
    ⊎ ((move.agent ≡ agent) × (at : ℕ) × (move.delivers ≡ Some at) × (at < length agent.pending))

item_lowers : (stage : Stage) (agent : Agent) (call : Call) (item : Item) → next_call stage agent ≡ Some call →
    LowersOrDelivers stage agent (without_delivery (with_item stage agent item))
item_lowers stage agent call item here = inl
    (near (weight_of stage (with_item stage agent item)) (weight_of stage agent)
    (finished_falls stage agent (with_item stage agent item) call here
    (record { rank = refl; at = refl; entered = refl; drawn = refl; ended = refl }) refl))
  where
    near : (a b : ℕ) → a + 16 < b → a < b
    near a b h = omega arith

-- ---- issues

one_more : (one : PendingAccess) (pending : List PendingAccess) →
    length (pending ++ made_pending one) ≤ length pending + 1
one_more one pending = by_test (nat_lt 0 one.access.len)
  where
    by_test : (b : Bool) → length (pending ++ cond b (one ∷ []) []) ≤ length pending + 1
    by_test true = rw (length-append pending (one ∷ [])) (omega arith)
    by_test false = rw (length-append pending []) (omega arith)

issue_lowers : (stage : Stage) (agent : Agent) (call : Call) (t : Transfer) (access : Access) →
    next_call stage agent ≡ Some call →
    LowersOrDelivers stage agent (issue_of stage agent t access)
issue_lowers stage agent call t access here =
    inl (issued_falls stage agent (with_issue stage agent access t) call here
    (record { rank = refl; at = refl; entered = refl; drawn = refl; ended = refl })
    (one_more (record { index = length agent.log; number = agent.at; access = access; fetches = t.fetches })
    agent.pending))

-- a call that moves data and is not refused has its Issue
issues : (stage : Stage) (agent : Agent) (call : Call) (t : Transfer) → next_call stage agent ≡ Some call →
    transfer_of call ≡ Some t → own_class agent.known call ≡ None →
    LowersOrDelivers stage agent (issue stage agent call)
issues stage agent call t here moves allowed =
    let access = allowed_has_access agent.known call t moves allowed in
    subst (λ (o : Option Transfer). LowersOrDelivers stage agent
    (option_map_or (λ t. option_map_or (issue_of stage agent t) (access_of agent.known.windows call)
    (without_delivery agent)) o (without_delivery agent))) (sym moves)
    (subst (λ (o : Option Access). LowersOrDelivers stage agent
    (option_map_or (issue_of stage agent t) o (without_delivery agent))) (sym access.2)
    (issue_lowers stage agent call t _ here))

-- ---- a call that begins

draw_lowers : (stage : Stage) (agent : Agent) → agent.drawn ≡ false → LowersOrDelivers stage agent (draw agent)
draw_lowers stage agent new = inl
    (lower (64 * (length (calls_at stage agent.rank) - agent.at) - cond agent.entered 32 0) (length agent.pending)
    (cond agent.ended 0 1) agent.drawn new)
  where
    lower : (a p c : ℕ) (drawn : Bool) → drawn ≡ false → a + p + 0 + c < a + p + cond drawn 0 1 + c
    lower a p c true e = absurd (cc e)
    lower a p c false e = omega arith

-- the call that begins has no entry
no_entry : (a b c d : Bool) → a ≡ false → b ≡ true → c ≡ true → (not a && b && c && d) ≡ false → d ≡ false
no_entry true b c d f g h e = absurd (cc f)
no_entry false false c d f g h e = absurd (cc g)
no_entry false true false d f g h e = absurd (cc h)
no_entry false true true d f g h e = e

item_falls : (course : Course) (stage : Stage) (agent : Agent) (call : Call) →
    course_of agent.known.windows call ≡ course → has_entry course ≡ false →
    next_call stage agent ≡ Some call → own_class agent.known call ≡ None →
    LowersOrDelivers stage agent (first_item course stage agent call)
item_falls OneNull stage agent call is none here allowed = item_lowers stage agent call (Null agent.at) here
item_falls OneIssue stage agent call is none here allowed =
    let t = transfer_with_issue agent.known.windows call (subst HasIssue (sym is) tt) in issues stage agent call t.0
    here t.1 allowed
item_falls LookUpAndIssue stage agent call is none here allowed = absurd (cc none)
item_falls OneFlush stage agent call is none here allowed = item_lowers stage agent call (Flush agent.at) here
item_falls OneRequest stage agent call is none here allowed = item_lowers stage agent call (Request agent.at) here
item_falls ArriveAndLeave stage agent call is none here allowed = absurd (cc none)
item_falls EntryOrTested stage agent call is none here allowed = absurd (cc none)
item_falls OneEntry stage agent call is none here allowed = absurd (cc none)

waits_or_goes_on : (o : Option ℕ) (stage : Stage) (agent : Agent) (call : Call) → awaited_by agent call ≡ o →
    next_call stage agent ≡ Some call → own_class agent.known call ≡ None →
    (is_none o ≡ true → has_entry (course_of agent.known.windows call) ≡ false) →
    LowersOrDelivers stage agent (wait_or_go_on o stage agent call)
waits_or_goes_on (Some at) stage agent call is here allowed none = inr
    (refl, at, refl, awaited_within agent.known.requests call agent.pending at is)
waits_or_goes_on None stage agent call is here allowed none =
    item_falls (course_of agent.known.windows call) stage agent call refl (none refl) here allowed

judged : (o : Option Class) (stage : Stage) (agent : Agent) (call : Call) → own_class agent.known call ≡ o →
    next_call stage agent ≡ Some call → must_draw stage agent ≡ false →
    begins_with_entry stage agent call ≡ false → LowersOrDelivers stage agent (judge o stage agent call)
judged (Some class) stage agent call is here still new = item_lowers stage agent call (Refused agent.at class 0) here
judged None stage agent call is here still new =
    waits_or_goes_on (awaited_by agent call) stage agent call refl here is
    (λ none. no_entry (must_draw stage agent) (is_none (own_class agent.known call)) (is_none (awaited_by agent call))
    (has_entry (course_of agent.known.windows call))
    still (ap is_none is) none new)

begins : (stage : Stage) (agent : Agent) (call : Call) → next_call stage agent ≡ Some call →
    begins_with_entry stage agent call ≡ false → LowersOrDelivers stage agent (begin stage agent call)
begins stage agent call here new = by_draw (must_draw stage agent) refl
  where
    by_draw : (b : Bool) → must_draw stage agent ≡ b → LowersOrDelivers stage agent
        (cond b (draw agent) (judge (own_class agent.known call) stage agent call))
    by_draw true e =
        let parts = and_parts (is_seeded stage.delay && not agent.drawn) (has_pending agent) e in
        let first = and_parts (is_seeded stage.delay) (not agent.drawn) parts.0 in
        draw_lowers stage agent (not-true agent.drawn first.1)
    by_draw false e = judged (own_class agent.known call) stage agent call refl here e new

-- ---- the step

-- a call whose first entry is put has its Issue next, where it moves data
inside : (stage : Stage) (agent : Agent) (call : Call) → next_call stage agent ≡ Some call →
    is_none (transfer_of call) ≡ false → own_class agent.known call ≡ None →
    LowersOrDelivers stage agent (issue stage agent call)
inside stage agent call here moves allowed = by_transfer (transfer_of call) refl moves
  where
    by_transfer : (o : Option Transfer) → transfer_of call ≡ o → is_none o ≡ false →
        LowersOrDelivers stage agent (issue stage agent call)
    by_transfer None e n = absurd (cc n)
    by_transfer (Some t) e n = issues stage agent call t here e allowed

goes_on : (stage : Stage) (agent : Agent) (call : Call) → HasBegun stage agent → next_call stage agent ≡ Some call →
    cond agent.entered (is_none (transfer_of call)) (begins_with_entry stage agent call) ≡ false →
    LowersOrDelivers stage agent (go_on stage agent call)
goes_on stage agent call begun here tries = by_entered agent.entered refl tries
  where
    by_entered : (b : Bool) → agent.entered ≡ b → cond b (is_none (transfer_of call))
        (begins_with_entry stage agent call) ≡ false →
        LowersOrDelivers stage agent (cond b (issue stage agent call) (begin stage agent call))
    by_entered true e t = inside stage agent call here t (begun e call here).allowed
    by_entered false e t = begins stage agent call here t

-- the rank ends
abbrev pub ended_now : Stage → Agent → Agent
ended_now stage agent = record (keep_item no_shapes stage agent Ended) { ended = true }

some_pending : (n : ℕ) → (n == 0) ≡ false → 0 < n
some_pending zero e = absurd (cc e)
some_pending (suc n) e = omega arith

end_lowers : (stage : Stage) (agent : Agent) (b : Bool) → agent.ended ≡ b → b ≡ false →
    LowersOrDelivers stage agent (cond b (without_delivery agent) (without_delivery (ended_now stage agent)))
end_lowers stage agent true e f = absurd (cc f)
end_lowers stage agent false e f =
    inl (lower (64 * (length (calls_at stage agent.rank) - agent.at) - cond agent.entered 32 0 + length
    agent.pending + cond agent.drawn 0 1) agent.ended e)
  where
    lower : (a : ℕ) (ended : Bool) → ended ≡ false → a + 0 < a + cond ended 0 1
    lower a true e = absurd (cc e)
    lower a false e = omega arith

ends : (stage : Stage) (agent : Agent) → agent.ended ≡ false → LowersOrDelivers stage agent (end stage agent)
ends stage agent going = by_pending (length agent.pending == 0) refl
  where
    by_pending : (b : Bool) → (length agent.pending == 0) ≡ b →
        LowersOrDelivers stage agent
        (cond (not b) (just_delivers agent 0)
        (cond agent.ended (without_delivery agent) (without_delivery (ended_now stage agent))))
    by_pending true e = end_lowers stage agent agent.ended refl going
    by_pending false e = inr (refl, 0, refl, some_pending (length agent.pending) e)

move_lowers : (stage : Stage) (agent : Agent) → HasBegun stage agent → agent.ended ≡ false →
    tries_entry stage agent ≡ false → LowersOrDelivers stage agent (move_of stage agent)
move_lowers stage agent begun going tries = by_call (next_call stage agent) refl tries
  where
    by_call : (o : Option Call) → next_call stage agent ≡ o →
        option_map_or (λ call. cond agent.entered (is_none (transfer_of call)) (begins_with_entry stage agent call)) o
        false ≡ false →
        LowersOrDelivers stage agent (option_map_or (go_on stage agent) o (end stage agent))
    by_call None e t = ends stage agent going
    by_call (Some call) e t = goes_on stage agent call begun e t

-- what is done then makes it no more
deliver_if_no_more : (stage : Stage) (cells : List Cell) (agent : Agent) (o : Option ℕ) →
    weight_of stage (option_map_or (deliver stage agent cells) o (record { agent = agent; cells = cells })).agent ≤
    weight_of stage agent
deliver_if_no_more stage cells agent None = omega arith
deliver_if_no_more stage cells agent (Some at) = delivery_no_more stage agent cells at

-- a step of a rank that tries no entry lowers what is left of it
pub data_step_falls : (stage : Stage) (agent : Agent) (cells : List Cell) → HasBegun stage agent →
    agent.ended ≡ false → tries_entry stage agent ≡ false →
    weight_of stage (data_step stage agent cells).agent < weight_of stage agent
data_step_falls stage agent cells begun going tries = by_move (move_lowers stage agent begun going tries)
  where
    move : Move
    move = move_of stage agent

    below : (a b c : ℕ) → a ≤ b → b < c → a < c
    below a b c h k = omega arith

    by_move : LowersOrDelivers stage agent move → weight_of stage (data_step stage agent cells).agent < weight_of
        stage agent
    by_move (inl falls) =
        below (weight_of stage (data_step stage agent cells).agent) (weight_of stage move.agent) (weight_of stage agent)
        (deliver_if_no_more stage cells move.agent move.delivers) falls
    by_move (inr (same, at, is, inside)) =
        subst (λ (o : Option ℕ). weight_of stage
        (option_map_or (deliver stage move.agent cells) o (record { agent = move.agent; cells = cells })).agent <
        weight_of stage agent) (sym is)
        (subst (λ (a : Agent). weight_of stage (deliver stage a cells at).agent < weight_of stage agent) (sym same)
        (delivery_falls stage agent cells at inside))
