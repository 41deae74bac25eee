-- A step at the board refuses the rank's next call alone, or its items are an entry, two, or a false test.
use Rattle.std.proofs.Common.{◌≡◌, ◌⊎◌, ℕ, inl, inr, Bool, true, false, cond, List, [], ◌∷◌, ◌++◌, length, drop, Result, Ok}
use Rattle.std.proofs.Common.{Err, refl, sym, ◌∙◌, ap, subst}
use Rattle.std.specs.Prelude.{IfOk, map}
use Rattle.std.proofs.lemmas.List.{append-nil, map-append}
use Rattle.list_laws.proofs.Lists.{cancel}
use Rattle.rma_types.specs.declared.accesses.Step.{Step}
use Rattle.rma_types.specs.declared.accesses.Step.TheVariants.{Arrive, Leave, One}
use Rattle.rma_types.specs.declared.calls.Call.{Call}
use Rattle.rma_types.specs.declared.classes.Class.{Class}
use Rattle.rma_record.specs.declared.items.Item.TheVariants.{Entry, Tested}
use Rattle.board_rules.specs.Board.{Decision, Refuse, Allow, NotYet, decide, is_allowed_now}
use Rattle.board_rules.specs.Entries.{Row}
use Rattle.board_rules.specs.Questions.{question}
use Rattle.cell_face.specs.Faces.{Face}
use Rattle.lawful_runs.specs.Stages.{Stage}
use Rattle.rank_rules.specs.Courses.{Course, OneNull, OneIssue, LookUpAndIssue, OneFlush, OneRequest, ArriveAndLeave}
use Rattle.rank_rules.specs.Courses.{EntryOrTested, OneEntry, course_of}
use Rattle.step_runs.specs.Agents.{Agent, end_call, enter_call}
use Rattle.step_runs.specs.BoardSteps.{AtBoard, enter_by, put_entry, entry_of, first_entry, leave, leave_if_entered}
use Rattle.step_runs.specs.BoardSteps.{next_row, refuse_entry, test_by, stay_waiting}
use Rattle.sync_board.specs.Boards.{BoardState, rows_on}
use Rattle.rank_engine.proofs.RefusalItems.{AddsPlain, Refuses, adds_none, adds_one, adds_then, plain_alone}
use Rattle.rank_engine.proofs.RefusalItems.{plain_never, refuses_alone}
use Rattle.rank_engine.proofs.EntrySteps.{all_dropped, as_many}
use Rattle.kept_rows.specs.Gifts.{Given, rows_given}
use Rattle.kept_rows.specs.KeptCalls.{kept_row}
use Rattle.rank_engine.specs.Entering.{IsTurn, StepsTo}
use Rattle.rank_engine.specs.RankStates.{RankState}
use Rattle.rank_engine.specs.Refusals.{RefusesAlone, WhereRefused}
use Rattle.rank_engine.specs.declared.answers.Turned.{Turned}

-- a step that refuses leaves the rows as they were
abbrev EntryOutcome : Agent → List Row → AtBoard → Type 0
EntryOutcome agent rows to = AddsPlain agent.log to.agent.log ⊎ (Refuses agent to.agent × (to.rows ≡ rows))

refused_outcome : (stage : Stage) (agent : Agent) (rows : List Row) (class : Class) →
    EntryOutcome agent rows (refuse_entry stage agent rows class)
refused_outcome stage agent rows class =
    inr (record { class = class; seen = length rows; log = refl; known = refl; pending = refl }, refl)

enter_outcome : (d : Decision) (stage : Stage) (agent : Agent) (rows : List Row) (call : Call) (step : Step)
    (after : Agent → Agent) → ((next : Agent) → (after next).log ≡ next.log) →
    EntryOutcome agent rows (enter_by d stage agent rows call step after)
enter_outcome (Refuse class) stage agent rows call step after same = refused_outcome stage agent rows class
enter_outcome Allow stage agent rows call step after same =
    inl (subst (AddsPlain agent.log) (sym (same _)) (adds_one agent.log (Entry agent.at (length rows) step) refl))
enter_outcome NotYet stage agent rows call step after same = inl (adds_none agent.log)

test_outcome : (d : Decision) (stage : Stage) (agent : Agent) (rows : List Row) (call : Call) →
    EntryOutcome agent rows (test_by d stage agent rows call)
test_outcome (Refuse class) stage agent rows call = refused_outcome stage agent rows class
test_outcome Allow stage agent rows call = inl (adds_one agent.log (Entry agent.at (length rows) One) refl)
test_outcome NotYet stage agent rows call = inl (adds_one agent.log (Tested agent.at (length rows)) refl)

-- a Leave is never refused
leave_adds : (stage : Stage) (agent : Agent) (rows : List Row) (call : Call) →
    AddsPlain agent.log (leave stage agent rows call).agent.log
leave_adds stage agent rows call =
    by_allowed (is_allowed_now (question stage.script.ranks rows (next_row agent call Leave)) Leave)
  where
    by_allowed : (b : Bool) →
        AddsPlain agent.log (enter_by (cond b Allow NotYet) stage agent rows call Leave end_call).agent.log
    by_allowed true = adds_one agent.log (Entry agent.at (length rows) Leave) refl
    by_allowed false = adds_none agent.log

arrive_outcome : (d : Decision) (stage : Stage) (agent : Agent) (rows : List Row) (call : Call) →
    EntryOutcome agent rows (leave_if_entered stage call (enter_by d stage agent rows call Arrive enter_call))
arrive_outcome (Refuse class) stage agent rows call = refused_outcome stage agent rows class
arrive_outcome Allow stage agent rows call =
    let arrived : AtBoard = put_entry stage agent rows call Arrive enter_call in
    inl (adds_then agent.log arrived.agent.log (leave stage arrived.agent arrived.rows call).agent.log
    (adds_one agent.log (Entry agent.at (length rows) Arrive) refl)
    (leave_adds stage arrived.agent arrived.rows call))
arrive_outcome NotYet stage agent rows call = by_entered agent.entered
  where
    by_entered : (b : Bool) → EntryOutcome agent rows (cond b (leave stage agent rows call) (stay_waiting agent rows))
    by_entered true = inl (leave_adds stage agent rows call)
    by_entered false = inl (adds_none agent.log)

first_outcome : (course : Course) (stage : Stage) (agent : Agent) (rows : List Row) (call : Call) →
    EntryOutcome agent rows (first_entry course stage agent rows call)
first_outcome OneNull stage agent rows call = inl (adds_none agent.log)
first_outcome OneIssue stage agent rows call = inl (adds_none agent.log)
first_outcome LookUpAndIssue stage agent rows call =
    enter_outcome (decide stage.script.ranks rows (next_row agent call One)) stage agent rows call One enter_call
    (λ next. refl)
first_outcome OneFlush stage agent rows call = inl (adds_none agent.log)
first_outcome OneRequest stage agent rows call = inl (adds_none agent.log)
first_outcome ArriveAndLeave stage agent rows call =
    arrive_outcome (decide stage.script.ranks rows (next_row agent call Arrive)) stage agent rows call
first_outcome EntryOrTested stage agent rows call =
    test_outcome (decide stage.script.ranks rows (next_row agent call One)) stage agent rows call
first_outcome OneEntry stage agent rows call =
    enter_outcome (decide stage.script.ranks rows (next_row agent call One)) stage agent rows call One end_call
    (λ next. refl)

entry_outcome : (stage : Stage) (agent : Agent) (rows : List Row) (call : Call) →
    EntryOutcome agent rows (entry_of stage agent rows call)
entry_outcome stage agent rows call = by_entered agent.entered
  where
    by_entered : (b : Bool) → EntryOutcome agent rows (cond b (leave stage agent rows call)
        (first_entry (course_of agent.known.windows call) stage agent rows call))
    by_entered true = inl (leave_adds stage agent rows call)
    by_entered false = first_outcome (course_of agent.known.windows call) stage agent rows call

-- the rank after a step at the board
entry_alone : (before after : RankState) (rows : List Row) (call : Call) →
    after ≡ record before { agent = (entry_of before.stage before.agent rows call).agent; free = after.free } →
    RefusesAlone before after
entry_alone before after rows call is = by_outcome (entry_outcome before.stage before.agent rows call)
  where
    to : Agent
    to = (entry_of before.stage before.agent rows call).agent

    agent : after.agent ≡ to
    agent = ap (λ (s : RankState). s.agent) is

    by_outcome : EntryOutcome before.agent rows (entry_of before.stage before.agent rows call) →
        RefusesAlone before after
    by_outcome (inl adds) = plain_alone before after
        (subst (λ (a : Agent). AddsPlain before.agent.log a.log) (sym agent) adds)
    by_outcome (inr (refuses, same)) = refuses_alone before after
        (subst (Refuses before.agent) (sym agent) refuses) (ap (λ (s : RankState). s.touched) is)

-- the board after it
same_board : (board board_after : BoardState) (rows : List Row) (given : List Given) →
    rows ≡ rows_on board → board_after ≡ record board { entries = board.entries ++ given } →
    rows_on board_after ≡ rows_on board ++ map kept_row (drop (length board.entries) rows) → board_after ≡ board
same_board board board_after rows given same is grown =
    is ∙ ap (λ l. record board { entries = l })
    (ap (λ l. board.entries ++ l) (none given more) ∙ append-nil board.entries)
  where
    none : (list : List Given) → rows_given list ≡ [] → list ≡ []
    none [] e = refl
    none (one ∷ list) e = absurd (cc e)

    nothing : drop (length board.entries) rows ≡ []
    nothing = ap (λ l. drop (length board.entries) l) same
        ∙ (ap (λ n. drop n (rows_on board)) (sym (as_many board)) ∙ all_dropped (rows_on board))

    more : rows_given given ≡ []
    more = cancel (rows_on board) (rows_given given) []
        (sym (map-append (λ (one : Given). one.row) board.entries given)
        ∙ (ap rows_on (sym is) ∙ (grown ∙ ap (λ l. rows_on board ++ map kept_row l) nothing)))

entry_untouched : (before after : RankState) (call : Call) (board board_after : BoardState) (face face_after : Face) →
    StepsTo (entry_of before.stage before.agent (rows_on board) call) before after board board_after face face_after →
    WhereRefused before after (board_after ≡ board)
entry_untouched before after call board board_after face face_after steps =
    by_outcome (entry_outcome before.stage before.agent (rows_on board) call)
  where
    to : AtBoard
    to = entry_of before.stage before.agent (rows_on board) call

    by_outcome : EntryOutcome before.agent (rows_on board) (entry_of before.stage before.agent (rows_on board) call) →
        WhereRefused before after (board_after ≡ board)
    by_outcome (inl adds) = plain_never before after (subst (λ (a : Agent). AddsPlain before.agent.log a.log)
        (sym (ap (λ (s : RankState). s.agent) steps.rank)) adds) (board_after ≡ board)
    by_outcome (inr (refuses, same)) = λ number class seen inside.
        same_board board board_after to.rows steps.given same steps.entries steps.rows

pub turn_untouched : {E : Type 0} (result : Result Turned E) (items : ℕ) (before after : RankState) (call : Call)
    (board board_after : BoardState) (face face_after : Face) →
    IfOk result (λ turned. IsTurn turned items (entry_of before.stage before.agent (rows_on board) call)
    before after board board_after face face_after) →
    IfOk result (λ _. WhereRefused before after (board_after ≡ board))
turn_untouched (Ok turned) items before after call board board_after face face_after turn =
    entry_untouched before after call board board_after face face_after turn.steps
turn_untouched (Err e) items before after call board board_after face face_after turn = tt

pub turn_alone : {E : Type 0} (result : Result Turned E) (items : ℕ) (before after : RankState) (call : Call)
    (board board_after : BoardState) (face face_after : Face) →
    IfOk result (λ turned. IsTurn turned items (entry_of before.stage before.agent (rows_on board) call)
    before after board board_after face face_after) →
    IfOk result (λ _. RefusesAlone before after)
turn_alone (Ok turned) items before after call board board_after face face_after turn =
    entry_alone before after (rows_on board) call turn.steps.rank
turn_alone (Err e) items before after call board board_after face face_after turn = tt
