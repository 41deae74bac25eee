-- A rank that is found waiting at the board is stuck there: it tries an entry that is not yet possible.
use Rattle.std.proofs.Common.{◌≡◌, ◌⊎◌, inl, inr, Bool, true, false, cond, List, Option, Some, None, refl, sym, ◌∙◌, ap}
use Rattle.std.proofs.Common.{subst}
use Rattle.std.specs.Prelude.{is_none}
use Rattle.std.specs.Option.{option_map_or}
use Rattle.rma_types.specs.declared.accesses.Step.{Step}
use Rattle.rma_types.specs.declared.accesses.Step.TheVariants.{Arrive, Leave, One}
use Rattle.rma_types.specs.declared.calls.Call.{Call}
use Rattle.board_rules.specs.Board.{Decision, Refuse, Allow, NotYet, decide}
use Rattle.board_rules.specs.Entries.{Row}
use Rattle.rma_types.specs.Actions.{transfer_of}
use Rattle.lawful_runs.specs.Stages.{Stage}
use Rattle.rank_laws.proofs.CallKinds.{moves_nothing}
use Rattle.rank_rules.specs.Courses.{Course, OneNull, OneIssue, LookUpAndIssue, OneFlush, OneRequest, ArriveAndLeave}
use Rattle.rank_rules.specs.Courses.{EntryOrTested, OneEntry, course_of}
use Rattle.step_runs.specs.Agents.{Agent, next_call, end_call, enter_call, begins_with_entry, tries_entry}
use Rattle.step_runs.specs.BoardSteps.{AtBoard, next_row, stay_waiting, put_entry, enter_by, test_by, leave}
use Rattle.step_runs.specs.BoardSteps.{leave_if_entered}
use Rattle.step_runs.specs.BoardSteps.{first_entry, entry_of, board_step}

-- the rank tries an entry, which is not yet possible after the rows
abbrev pub IsStuck : Stage → Agent → List Row → Type 0
IsStuck stage agent rows = (tries_entry stage agent ≡ true) × (board_step stage agent rows ≡ stay_waiting agent rows)

-- a step after which the rank waits did nothing, or left the rank stuck
abbrev Sticks : Stage → Agent → List Row → AtBoard → Type 0
Sticks stage agent rows step =
    step.waits ≡ true → (step ≡ stay_waiting agent rows) ⊎ IsStuck stage step.agent step.rows

enter_sticks : (d : Decision) (stage : Stage) (agent : Agent) (rows : List Row) (call : Call) (step : Step)
    (after : Agent → Agent) → Sticks stage agent rows (enter_by d stage agent rows call step after)
enter_sticks (Refuse class) stage agent rows call step after waits = absurd (cc waits)
enter_sticks Allow stage agent rows call step after waits = absurd (cc waits)
enter_sticks NotYet stage agent rows call step after waits = inl refl

test_sticks : (d : Decision) (stage : Stage) (agent : Agent) (rows : List Row) (call : Call) →
    Sticks stage agent rows (test_by d stage agent rows call)
test_sticks (Refuse class) stage agent rows call waits = absurd (cc waits)
test_sticks Allow stage agent rows call waits = absurd (cc waits)
test_sticks NotYet stage agent rows call waits = absurd (cc waits)

-- a rank inside a collective call is stuck there until all have arrived
inside_stuck : (stage : Stage) (agent : Agent) (rows : List Row) (call : Call) → next_call stage agent ≡ Some call →
    agent.entered ≡ true → transfer_of call ≡ None → leave stage agent rows call ≡ stay_waiting agent rows →
    IsStuck stage agent rows
inside_stuck stage agent rows call here inside none waits = (
  ap (λ (o : Option Call). option_map_or (λ c. cond agent.entered (is_none (transfer_of c))
      (begins_with_entry stage agent c)) o false) here
      ∙ ap (λ b. cond b (is_none (transfer_of call)) (begins_with_entry stage agent call)) inside ∙ ap is_none none,
  ap (λ (o : Option Call). option_map_or (entry_of stage agent rows) o (stay_waiting agent rows)) here
      ∙ ap (λ b. cond b (leave stage agent rows call)
      (first_entry (course_of agent.known.windows call) stage agent rows call)) inside ∙ waits,
)

arrive_sticks : (d : Decision) (stage : Stage) (agent : Agent) (rows : List Row) (call : Call) →
    next_call stage agent ≡ Some call → agent.entered ≡ false → transfer_of call ≡ None →
    Sticks stage agent rows (leave_if_entered stage call (enter_by d stage agent rows call Arrive enter_call))
arrive_sticks (Refuse class) stage agent rows call here new none = λ waits. absurd (cc waits)
arrive_sticks NotYet stage agent rows call here new none = λ waits.
    inl (ap (λ b. cond b (leave stage agent rows call) (stay_waiting agent rows)) new)
arrive_sticks Allow stage agent rows call here new none = by_leave
    (decide stage.script.ranks arrived.rows (next_row arrived.agent call Leave)) refl
  where
    arrived : AtBoard
    arrived = put_entry stage agent rows call Arrive enter_call

    by_leave : (d : Decision) → decide stage.script.ranks arrived.rows (next_row arrived.agent call Leave) ≡ d →
        Sticks stage agent rows (enter_by d stage arrived.agent arrived.rows call Leave end_call)
    by_leave (Refuse class) is waits = absurd (cc waits)
    by_leave Allow is waits = absurd (cc waits)
    by_leave NotYet is waits = inr (inside_stuck stage arrived.agent arrived.rows call here refl none
        (ap (λ d. enter_by d stage arrived.agent arrived.rows call Leave end_call) is))

first_sticks : (course : Course) (stage : Stage) (agent : Agent) (rows : List Row) (call : Call) →
    course_of agent.known.windows call ≡ course → next_call stage agent ≡ Some call → agent.entered ≡ false →
    Sticks stage agent rows (first_entry course stage agent rows call)
first_sticks OneNull stage agent rows call is here new = λ waits. inl refl
first_sticks OneIssue stage agent rows call is here new = λ waits. inl refl
first_sticks LookUpAndIssue stage agent rows call is here new =
    enter_sticks (decide stage.script.ranks rows (next_row agent call One)) stage agent rows call One enter_call
first_sticks OneFlush stage agent rows call is here new = λ waits. inl refl
first_sticks OneRequest stage agent rows call is here new = λ waits. inl refl
first_sticks ArriveAndLeave stage agent rows call is here new =
    arrive_sticks (decide stage.script.ranks rows (next_row agent call Arrive)) stage agent rows call here new
    (moves_nothing agent.known.windows call ArriveAndLeave is refl)
first_sticks EntryOrTested stage agent rows call is here new =
    test_sticks (decide stage.script.ranks rows (next_row agent call One)) stage agent rows call
first_sticks OneEntry stage agent rows call is here new =
    enter_sticks (decide stage.script.ranks rows (next_row agent call One)) stage agent rows call One end_call

step_sticks : (stage : Stage) (agent : Agent) (rows : List Row) → Sticks stage agent rows (board_step stage agent rows)
step_sticks stage agent rows = by_call (next_call stage agent) refl
  where
    by_entered : (call : Call) → next_call stage agent ≡ Some call → (b : Bool) → agent.entered ≡ b →
        Sticks stage agent rows (cond b (leave stage agent rows call)
        (first_entry (course_of agent.known.windows call) stage agent rows call))
    by_entered call here true e =
        enter_sticks (decide stage.script.ranks rows (next_row agent call Leave)) stage agent rows call Leave end_call
    by_entered call here false e = first_sticks (course_of agent.known.windows call) stage agent rows call refl here e

    by_call : (o : Option Call) → next_call stage agent ≡ o →
        Sticks stage agent rows (option_map_or (entry_of stage agent rows) o (stay_waiting agent rows))
    by_call None here = λ waits. inl refl
    by_call (Some call) here = by_entered call here agent.entered refl

-- a rank that waits after its step is stuck
pub waits_stuck : (stage : Stage) (agent : Agent) (rows : List Row) → tries_entry stage agent ≡ true →
    (let step = board_step stage agent rows in step.waits ≡ true → IsStuck stage step.agent step.rows)
waits_stuck stage agent rows tries waits = elim (step_sticks stage agent rows waits) [
  | inl is ↦ subst (λ (step : AtBoard). IsStuck stage step.agent step.rows) (sym is) (tries, is)
  | inr stuck ↦ stuck
]
