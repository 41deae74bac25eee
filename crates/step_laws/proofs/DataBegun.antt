-- A step of a rank without the board finishes the rank's call, or leaves it as it was.
use Rattle.std.proofs.Common.{◌≡◌, ℕ, ◌⊎◌, inl, inr, Bool, true, false, cond, List, [], ◌∷◌, Option, Some, None, refl}
use Rattle.std.proofs.Common.{sym, ◌∙◌, ap, subst}
use Rattle.std.specs.Prelude.{slice_get}
use Rattle.std.specs.Option.{option_map_or}
use Rattle.rma_types.specs.declared.accesses.Access.{Access}
use Rattle.rma_types.specs.declared.calls.Call.{Call}
use Rattle.rma_types.specs.declared.classes.Class.{Class}
use Rattle.call_rules.specs.declared.cells.Cell.{Cell}
use Rattle.rma_types.specs.declared.actions.Transfer.{Transfer}
use Rattle.rma_types.specs.Actions.{transfer_of}
use Rattle.lawful_runs.specs.Stages.{Stage, calls_at}
use Rattle.rank_rules.specs.Courses.{Course, OneNull, OneIssue, LookUpAndIssue, OneFlush, OneRequest, ArriveAndLeave}
use Rattle.rank_rules.specs.Courses.{EntryOrTested, OneEntry, course_of, access_of}
use Rattle.rank_rules.specs.Knowledge.{Knowledge, own_class}
use Rattle.rank_rules.specs.declared.pending.PendingAccess.{PendingAccess}
use Rattle.step_runs.specs.Agents.{Agent, next_call, has_pending, must_draw, awaited_by}
use Rattle.step_runs.specs.DataSteps.{OnMemory, with_delivery, deliver, Move, just_delivers, without_delivery, issue_of}
use Rattle.step_runs.specs.DataSteps.{issue, draw, first_item, wait_or_go_on, judge, begin, go_on, end, move_of}
use Rattle.step_runs.specs.DataSteps.{data_step}
use Rattle.step_laws.proofs.DataWeights.{ended_now}
use Rattle.step_laws.proofs.EntryMoves.{HasBegun, IsTwofold}
use Rattle.step_laws.proofs.Weights.{with_delivery_is}

-- a step that tries no entry finishes the call, or leaves it as it was
abbrev pub IsAsBegun : Stage → Agent → Agent → Type 0
IsAsBegun stage agent next = (next.entered ≡ false) ⊎
    ((next.rank ≡ agent.rank) × (next.at ≡ agent.at) × (next.entered ≡ agent.entered) × (next.known ≡ agent.known))

as_begun : (stage : Stage) (agent next : Agent) → IsAsBegun stage agent next → HasBegun stage agent →
    HasBegun stage next
as_begun stage agent next (inl new) begun e call here = absurd (cc (e, new))
as_begun stage agent next (inr (rank, at, entered, known)) begun e call here =
    let before : next_call stage agent ≡ Some call = subst (λ r. slice_get (calls_at stage r) agent.at ≡ Some call)
    rank (subst (λ n. slice_get (calls_at stage next.rank) n ≡ Some call) at here) in
    let old = begun (sym entered ∙ e) call before in
    record {
      allowed = ap (λ (k : Knowledge). own_class k call) known ∙ old.allowed;
      twofold = subst (λ (k : Knowledge). IsTwofold (course_of k.windows call)) (sym known) old.twofold;
    }

issue_is : (stage : Stage) (agent : Agent) (call : Call) → IsAsBegun stage agent (issue stage agent call).agent
issue_is stage agent call = by_transfer (transfer_of call)
  where
    by_access : (t : Transfer) (o : Option Access) → IsAsBegun stage agent
        (option_map_or (issue_of stage agent t) o (without_delivery agent)).agent
    by_access t None = inr (refl, refl, refl, refl)
    by_access t (Some access) = inl refl

    by_transfer : (o : Option Transfer) →
        IsAsBegun stage agent
        (option_map_or (λ t. option_map_or (issue_of stage agent t) (access_of agent.known.windows call)
        (without_delivery agent)) o (without_delivery agent)).agent
    by_transfer None = inr (refl, refl, refl, refl)
    by_transfer (Some t) = by_access t (access_of agent.known.windows call)

first_item_is : (course : Course) (stage : Stage) (agent : Agent) (call : Call) →
    IsAsBegun stage agent (first_item course stage agent call).agent
first_item_is OneNull stage agent call = inl refl
first_item_is OneIssue stage agent call = issue_is stage agent call
first_item_is LookUpAndIssue stage agent call = inr (refl, refl, refl, refl)
first_item_is OneFlush stage agent call = inl refl
first_item_is OneRequest stage agent call = inl refl
first_item_is ArriveAndLeave stage agent call = inr (refl, refl, refl, refl)
first_item_is EntryOrTested stage agent call = inr (refl, refl, refl, refl)
first_item_is OneEntry stage agent call = inr (refl, refl, refl, refl)

begin_is : (stage : Stage) (agent : Agent) (call : Call) → IsAsBegun stage agent (begin stage agent call).agent
begin_is stage agent call = by_draw (must_draw stage agent)
  where
    by_wait : (o : Option ℕ) → IsAsBegun stage agent (wait_or_go_on o stage agent call).agent
    by_wait None = first_item_is (course_of agent.known.windows call) stage agent call
    by_wait (Some at) = inr (refl, refl, refl, refl)

    by_class : (o : Option Class) → IsAsBegun stage agent (judge o stage agent call).agent
    by_class None = by_wait (awaited_by agent call)
    by_class (Some class) = inl refl

    by_draw : (b : Bool) → IsAsBegun stage agent
        (cond b (draw agent) (judge (own_class agent.known call) stage agent call)).agent
    by_draw true = inr (refl, refl, refl, refl)
    by_draw false = by_class (own_class agent.known call)

move_is : (stage : Stage) (agent : Agent) → IsAsBegun stage agent (move_of stage agent).agent
move_is stage agent = by_call (next_call stage agent)
  where
    by_ended : (b : Bool) → IsAsBegun stage agent
        (cond b (without_delivery agent) (without_delivery (ended_now stage agent))).agent
    by_ended true = inr (refl, refl, refl, refl)
    by_ended false = inr (refl, refl, refl, refl)

    by_pending : (b : Bool) → IsAsBegun stage agent
        (cond b (just_delivers agent 0)
        (cond agent.ended (without_delivery agent) (without_delivery (ended_now stage agent)))).agent
    by_pending true = inr (refl, refl, refl, refl)
    by_pending false = by_ended agent.ended

    by_entered : (b : Bool) (call : Call) → IsAsBegun stage agent
        (cond b (issue stage agent call) (begin stage agent call)).agent
    by_entered true call = issue_is stage agent call
    by_entered false call = begin_is stage agent call

    by_call : (o : Option Call) → IsAsBegun stage agent (option_map_or (go_on stage agent) o (end stage agent)).agent
    by_call None = by_pending (has_pending agent)
    by_call (Some call) = by_entered agent.entered call

delivered_begun : (stage : Stage) (agent : Agent) (cells : List Cell) (o : Option ℕ) → HasBegun stage agent →
    HasBegun stage (option_map_or (deliver stage agent cells) o (record { agent = agent; cells = cells })).agent
delivered_begun stage agent cells None begun = begun
delivered_begun stage agent cells (Some at) begun = by_access (slice_get agent.pending at) refl
  where
    by_access : (o : Option PendingAccess) → slice_get agent.pending at ≡ o →
        HasBegun stage (option_map_or (with_delivery stage agent cells at) o
        (record { agent = agent; cells = cells })).agent
    by_access None e = begun
    by_access (Some one) e =
        let is = (with_delivery_is stage agent cells at one).0 in
        as_begun stage agent (with_delivery stage agent cells at one).agent
        (inr (is.rank, is.at, is.entered, is.known)) begun

pub data_begun : (stage : Stage) (agent : Agent) (cells : List Cell) → HasBegun stage agent →
    HasBegun stage (data_step stage agent cells).agent
data_begun stage agent cells begun =
    let move = move_of stage agent in
    delivered_begun stage move.agent cells move.delivers (as_begun stage agent move.agent (move_is stage agent) begun)
