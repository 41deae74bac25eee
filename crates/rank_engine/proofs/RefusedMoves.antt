-- A step without the board refuses the rank's next call alone, or none of its items is a refused call.
use Rattle.std.proofs.Common.{◌≡◌, ℕ, ◌⊎◌, inl, inr, Bool, true, false, cond, List, [], ◌∷◌, ◌++◌, length, drop}
use Rattle.std.proofs.Common.{Option, Some, None, refl, sym, ◌∙◌, ap, subst}
use Rattle.std.specs.Prelude.{map, nat_lt}
use Rattle.std.specs.List.{AllByRecursion}
use Rattle.std.specs.Option.{option_and_then, option_map_or}
use Rattle.rma_types.specs.declared.accesses.Access.{Access}
use Rattle.rma_types.specs.declared.calls.Call.{Call}
use Rattle.rma_types.specs.declared.classes.Class.{Class}
use Rattle.rma_record.specs.declared.items.Item.{Item}
use Rattle.rma_record.specs.declared.items.Item.TheVariants.{Issue, Null, Flush, Request, Ended}
use Rattle.access_steps.specs.TouchesMade.{MadeTouch, item_of}
use Rattle.call_rules.specs.declared.cells.Cell.{Cell}
use Rattle.rma_types.specs.declared.actions.Transfer.{Transfer}
use Rattle.rma_types.specs.Actions.{transfer_of}
use Rattle.cell_face.specs.Faces.{Face}
use Rattle.lawful_runs.specs.Stages.{Stage}
use Rattle.rank_rules.specs.Courses.{Course, OneNull, OneIssue, LookUpAndIssue, OneFlush, OneRequest, ArriveAndLeave}
use Rattle.rank_rules.specs.Courses.{EntryOrTested, OneEntry, access_of, course_of}
use Rattle.rank_rules.specs.Knowledge.{own_class}
use Rattle.rank_rules.specs.declared.pending.PendingAccess.{PendingAccess}
use Rattle.step_runs.specs.Agents.{Agent, awaited_by, has_pending, keep_item, must_draw, next_call}
use Rattle.step_runs.specs.DataSteps.{Move, begin, draw, end, first_item, go_on, issue, issue_of, judge, just_delivers}
use Rattle.step_runs.specs.DataSteps.{move_of, no_shapes, wait_or_go_on, with_item, without_delivery}
use Rattle.rank_engine.proofs.KeptLogs.{keeps_outcome}
use Rattle.rank_engine.proofs.MovesMade.{nothing_touched}
use Rattle.rank_engine.proofs.RefusalItems.{AddsPlain, IsPlain, Refuses, adds_none, adds_one, adds_then, plain_alone}
use Rattle.rank_engine.proofs.RefusalItems.{plain_never, refuses_alone}
use Rattle.rank_engine.specs.DataAnswers.{IsDelivered}
use Rattle.rank_engine.specs.KeptItems.{KeepsItems}
use Rattle.rank_engine.specs.Moves.{IsMove}
use Rattle.rank_engine.specs.RankStates.{RankState, delivery_of, own_move}
use Rattle.rank_engine.specs.Refusals.{RefusesAlone, WhereRefused}

-- a move that refuses delivers nothing
abbrev MoveOutcome : Agent → Move → Type 0
MoveOutcome agent move =
    AddsPlain agent.log move.agent.log ⊎ (Refuses agent move.agent × (move.delivers ≡ None))

item_outcome : (stage : Stage) (agent : Agent) (item : Item) → IsPlain item →
    MoveOutcome agent (without_delivery (with_item stage agent item))
item_outcome stage agent item plain = inl (adds_one agent.log item plain)

issue_outcome : (stage : Stage) (agent : Agent) (call : Call) → MoveOutcome agent (issue stage agent call)
issue_outcome stage agent call = by_transfer (transfer_of call)
  where
    by_access : (t : Transfer) (o : Option Access) →
        MoveOutcome agent (option_map_or (issue_of stage agent t) o (without_delivery agent))
    by_access t None = inl (adds_none agent.log)
    by_access t (Some access) = inl (adds_one agent.log (Issue agent.at access) refl)

    by_transfer : (o : Option Transfer) → MoveOutcome agent (option_map_or
        (λ t. option_map_or (issue_of stage agent t) (access_of agent.known.windows call) (without_delivery agent)) o
        (without_delivery agent))
    by_transfer None = inl (adds_none agent.log)
    by_transfer (Some t) = by_access t (access_of agent.known.windows call)

first_outcome : (course : Course) (stage : Stage) (agent : Agent) (call : Call) →
    MoveOutcome agent (first_item course stage agent call)
first_outcome OneNull stage agent call = item_outcome stage agent (Null agent.at) refl
first_outcome OneIssue stage agent call = issue_outcome stage agent call
first_outcome LookUpAndIssue stage agent call = inl (adds_none agent.log)
first_outcome OneFlush stage agent call = item_outcome stage agent (Flush agent.at) refl
first_outcome OneRequest stage agent call = item_outcome stage agent (Request agent.at) refl
first_outcome ArriveAndLeave stage agent call = inl (adds_none agent.log)
first_outcome EntryOrTested stage agent call = inl (adds_none agent.log)
first_outcome OneEntry stage agent call = inl (adds_none agent.log)

begin_outcome : (stage : Stage) (agent : Agent) (call : Call) → MoveOutcome agent (begin stage agent call)
begin_outcome stage agent call = by_draw (must_draw stage agent)
  where
    by_wait : (o : Option ℕ) → MoveOutcome agent (wait_or_go_on o stage agent call)
    by_wait None = first_outcome (course_of agent.known.windows call) stage agent call
    by_wait (Some at) = inl (adds_none agent.log)

    by_class : (o : Option Class) → MoveOutcome agent (judge o stage agent call)
    by_class None = by_wait (awaited_by agent call)
    by_class (Some class) =
        inr (record { class = class; seen = 0; log = refl; known = refl; pending = refl }, refl)

    by_draw : (b : Bool) → MoveOutcome agent
        (cond b (draw agent) (judge (own_class agent.known call) stage agent call))
    by_draw true = inl (adds_none agent.log)
    by_draw false = by_class (own_class agent.known call)

end_outcome : (stage : Stage) (agent : Agent) → MoveOutcome agent (end stage agent)
end_outcome stage agent = by_pending (has_pending agent)
  where
    over : Agent
    over = record (keep_item no_shapes stage agent Ended) { ended = true }

    by_ended : (b : Bool) → MoveOutcome agent (cond b (without_delivery agent) (without_delivery over))
    by_ended true = inl (adds_none agent.log)
    by_ended false = inl (adds_one agent.log Ended refl)

    by_pending : (b : Bool) → MoveOutcome agent (cond b (just_delivers agent 0)
        (cond agent.ended (without_delivery agent) (without_delivery over)))
    by_pending true = inl (adds_none agent.log)
    by_pending false = by_ended agent.ended

move_outcome : (stage : Stage) (agent : Agent) → MoveOutcome agent (move_of stage agent)
move_outcome stage agent = by_call (next_call stage agent)
  where
    by_entered : (call : Call) (b : Bool) →
        MoveOutcome agent (cond b (issue stage agent call) (begin stage agent call))
    by_entered call true = issue_outcome stage agent call
    by_entered call false = begin_outcome stage agent call

    by_call : (o : Option Call) → MoveOutcome agent (option_map_or (go_on stage agent) o (end stage agent))
    by_call None = end_outcome stage agent
    by_call (Some call) = by_entered call agent.entered

own_outcome : (s : RankState) → MoveOutcome s.agent (own_move s)
own_outcome s = by_opened s.opened
  where
    by_opened : (o : Option ℕ) → MoveOutcome s.agent
        (option_map_or (just_delivers s.agent) o (move_of s.stage s.agent))
    by_opened None = move_outcome s.stage s.agent
    by_opened (Some at) = inl (adds_none s.agent.log)

-- ---- the delivery after it

touches_plain : (issue : ℕ) (touches : List MadeTouch) → AllByRecursion IsPlain (map (item_of issue) touches)
touches_plain issue [] = tt
touches_plain issue (touch ∷ touches) = (refl, touches_plain issue touches)

-- the rank after a move alone
pub move_alone : (before after : RankState) → IsMove before after (own_move before) → RefusesAlone before after
move_alone before after move = by_outcome (own_outcome before)
  where
    is : after.agent ≡ (own_move before).agent
    is = ap (λ (s : RankState). s.agent) move.rank

    touched : (own_move before).agent.pending ≡ before.agent.pending → after.touched ≡ before.touched
    touched pending = ap (λ (s : RankState). s.touched) move.rank
        ∙ (ap (λ p. before.touched ++ map (λ (_ : PendingAccess). 0) (drop (length before.agent.pending) p)) pending
        ∙ nothing_touched before.touched before.agent.pending)

    by_outcome : MoveOutcome before.agent (own_move before) → RefusesAlone before after
    by_outcome (inl adds) = plain_alone before after
        (subst (λ (a : Agent). AddsPlain before.agent.log a.log) (sym is) adds)
    by_outcome (inr (refuses, none)) = refuses_alone before after
        (subst (Refuses before.agent) (sym is) refuses) (touched refuses.pending)

-- the rank after a move and a delivery: none of the items is a refused call
delivery_plain : (before between after : RankState) (at : ℕ) (done : Bool) (face face_after : Face)
    (knows : ℕ → Cell → Type 0) → IsMove before between (own_move before) → between.opened ≡ Some at →
    IsDelivered (Some at) between after done face face_after knows → AddsPlain before.agent.log after.agent.log
delivery_plain before between after at done face face_after knows move opens delivered =
    by_outcome (own_outcome before)
  where
    is : between.agent ≡ (own_move before).agent
    is = ap (λ (s : RankState). s.agent) move.rank

    by_outcome : MoveOutcome before.agent (own_move before) → AddsPlain before.agent.log after.agent.log
    by_outcome (inl adds) = adds_then before.agent.log between.agent.log after.agent.log
        (subst (λ (a : Agent). AddsPlain before.agent.log a.log) (sym is) adds) (record {
          items = map (item_of delivered.1.one.index) delivered.1.touches.touches;
          more = delivered.1.touches.items;
          plain = touches_plain delivered.1.one.index delivered.1.touches.touches;
        })
    by_outcome (inr (refuses, none)) =
        let nowhere : delivery_of (own_move before) ≡ None =
        ap (option_and_then (λ at. cond (nat_lt at (length (own_move before).agent.pending)) (Some at) None)) none in
        absurd (cc (nowhere, ap (λ (s : RankState). s.opened) move.rank, opens))

pub delivery_alone : (before between after : RankState) (at : ℕ) (done : Bool) (face face_after : Face)
    (knows : ℕ → Cell → Type 0) → IsMove before between (own_move before) → between.opened ≡ Some at →
    IsDelivered (Some at) between after done face face_after knows → RefusesAlone before after
delivery_alone before between after at done face face_after knows move opens delivered =
    plain_alone before after
    (delivery_plain before between after at done face face_after knows move opens delivered)

pub delivery_untouched : (before between after : RankState) (at : ℕ) (done : Bool) (face face_after : Face)
    (knows : ℕ → Cell → Type 0) → IsMove before between (own_move before) → between.opened ≡ Some at →
    IsDelivered (Some at) between after done face face_after knows → WhereRefused before after (face_after ≡ face)
delivery_untouched before between after at done face face_after knows move opens delivered =
    plain_never before after
    (delivery_plain before between after at done face face_after knows move opens delivered) (face_after ≡ face)

-- what was kept before a move stays in front
pub move_keeps : (before after : RankState) → IsMove before after (own_move before) →
    KeepsItems before.agent.log after.agent.log
move_keeps before after move =
    subst (λ (a : Agent). KeepsItems before.agent.log a.log) (sym (ap (λ (s : RankState). s.agent) move.rank))
    (by_outcome (own_outcome before))
  where
    to : Agent
    to = (own_move before).agent

    by_outcome : MoveOutcome before.agent (own_move before) → KeepsItems before.agent.log to.log
    by_outcome (inl adds) = keeps_outcome before.agent to (inl adds)
    by_outcome (inr (refuses, none)) = keeps_outcome before.agent to (inr refuses)
