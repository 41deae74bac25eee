-- A step of a rank at the board leaves the rank waiting, or lowers what is left of it.
use Rattle.std.proofs.Common.{◌≡◌, ℕ, ◌+◌, ◌<◌, ◌⊎◌, inl, inr, Bool, true, false, cond, List, [], ◌∷◌, ◌++◌, length}
use Rattle.std.proofs.Common.{Option, Some, None, refl, sym, ap, subst, arith}
use Rattle.std.specs.Option.{option_map_or}
use Rattle.rma_types.specs.declared.accesses.Step.{Step}
use Rattle.rma_types.specs.declared.accesses.Step.TheVariants.{Arrive, Leave, One}
use Rattle.rma_types.specs.declared.calls.Call.{Call}
use Rattle.rma_types.specs.declared.classes.Class.{Class}
use Rattle.rma_record.specs.declared.items.Item.{Item}
use Rattle.rma_record.specs.declared.items.Item.TheVariants.{Entry, Tested, Refused}
use Rattle.rma_types.specs.declared.scripts.Part.{Part}
use Rattle.board_rules.specs.Board.{Decision, Refuse, Allow, NotYet, decide}
use Rattle.board_rules.specs.Entries.{Row}
use Rattle.lawful_runs.specs.Stages.{Stage, shapes_in}
use Rattle.rank_rules.specs.Courses.{Course, OneNull, OneIssue, LookUpAndIssue, OneFlush, OneRequest, ArriveAndLeave}
use Rattle.rank_rules.specs.Courses.{EntryOrTested, OneEntry, course_of}
use Rattle.step_runs.specs.Agents.{Agent, next_call, keep_item, end_call, enter_call}
use Rattle.step_runs.specs.BoardSteps.{AtBoard, next_row, stay_waiting, put_entry, refuse_entry, turn_away, enter_by}
use Rattle.step_runs.specs.BoardSteps.{enter}
use Rattle.step_runs.specs.BoardSteps.{test_by, test, leave, leave_if_entered, arrive, first_entry, entry_of}
use Rattle.step_runs.specs.BoardSteps.{board_step}
use Rattle.step_laws.proofs.Weights.{weight_of, FallsFar, IsFinished, finished_falls, opened_falls}

-- a rank waits, or less is left of it
abbrev pub WaitsOrFalls : Stage → Agent → List Row → AtBoard → Type 0
WaitsOrFalls stage agent rows step = (step ≡ stay_waiting agent rows) ⊎ FallsFar stage agent step.agent

kept_finished : (shapes : ℕ → List Part) (stage : Stage) (agent : Agent) (call : Call) (item : Item) →
    next_call stage agent ≡ Some call →
    FallsFar stage agent (end_call (keep_item shapes stage agent item))
kept_finished shapes stage agent call item here =
    finished_falls stage agent (end_call (keep_item shapes stage agent item)) call here
    (record { rank = refl; at = refl; entered = refl; drawn = refl; ended = refl }) refl

kept_opened : (shapes : ℕ → List Part) (stage : Stage) (agent : Agent) (call : Call) (item : Item) →
    next_call stage agent ≡ Some call → agent.entered ≡ false →
    FallsFar stage agent (enter_call (keep_item shapes stage agent item))
kept_opened shapes stage agent call item here new =
    opened_falls stage agent (enter_call (keep_item shapes stage agent item)) call here new refl refl refl refl refl
    refl

-- after an entry less is left
abbrev pub GoesOnLower : Stage → Agent → (Agent → Agent) → Type 0
GoesOnLower stage agent after = (shapes : ℕ → List Part) (item : Item) →
    FallsFar stage agent (after (keep_item shapes stage agent item))

enter_falls : (d : Decision) (stage : Stage) (agent : Agent) (rows : List Row) (call : Call) (step : Step)
    (after : Agent → Agent) → next_call stage agent ≡ Some call →
    GoesOnLower stage agent after → WaitsOrFalls stage agent rows (enter_by d stage agent rows call step after)
enter_falls (Refuse class) stage agent rows call step after here lower =
    inr (kept_finished (shapes_in stage rows) stage agent call (Refused agent.at class (length rows)) here)
enter_falls Allow stage agent rows call step after here lower = inr
    (lower (shapes_in stage (rows ++ next_row agent call step ∷ [])) (Entry agent.at (length rows) step))
enter_falls NotYet stage agent rows call step after here lower = inl refl

leave_falls : (stage : Stage) (agent : Agent) (rows : List Row) (call : Call) → next_call stage agent ≡ Some call →
    WaitsOrFalls stage agent rows (leave stage agent rows call)
leave_falls stage agent rows call here =
    enter_falls (decide stage.script.ranks rows (next_row agent call Leave)) stage agent rows call Leave end_call here
    (λ shapes item. kept_finished shapes stage agent call item here)

far : (a b c : ℕ) → a + 16 < b → b + 16 < c → a + 16 < c
far a b c h k = omega arith

arrive_falls : (d : Decision) (stage : Stage) (agent : Agent) (rows : List Row) (call : Call) →
    next_call stage agent ≡ Some call → agent.entered ≡ false →
    WaitsOrFalls stage agent rows (leave_if_entered stage call (enter_by d stage agent rows call Arrive enter_call))
arrive_falls (Refuse class) stage agent rows call here new =
    inr (kept_finished (shapes_in stage rows) stage agent call (Refused agent.at class (length rows)) here)
arrive_falls Allow stage agent rows call here new = by_leave (leave_falls stage arrived.agent arrived.rows call here)
  where
    arrived : AtBoard
    arrived = enter_by Allow stage agent rows call Arrive enter_call

    opens : FallsFar stage agent arrived.agent
    opens = kept_opened (shapes_in stage arrived.rows) stage agent call (Entry agent.at (length rows) Arrive) here new

    by_leave : WaitsOrFalls stage arrived.agent arrived.rows (leave stage arrived.agent arrived.rows call) →
        WaitsOrFalls stage agent rows (leave stage arrived.agent arrived.rows call)
    by_leave (inl waits) = inr (subst (λ (step : AtBoard). FallsFar stage agent step.agent) (sym waits) opens)
    by_leave (inr falls) = inr
        (far (weight_of stage (leave stage arrived.agent arrived.rows call).agent) (weight_of stage arrived.agent)
        (weight_of stage agent) falls opens)
arrive_falls NotYet stage agent rows call here new =
    inl (ap (λ b. cond b (leave stage agent rows call) (stay_waiting agent rows)) new)

test_falls : (d : Decision) (stage : Stage) (agent : Agent) (rows : List Row) (call : Call) →
    next_call stage agent ≡ Some call →
    WaitsOrFalls stage agent rows (test_by d stage agent rows call)
test_falls (Refuse class) stage agent rows call here =
    inr (kept_finished (shapes_in stage rows) stage agent call (Refused agent.at class (length rows)) here)
test_falls Allow stage agent rows call here =
    inr (kept_finished (shapes_in stage (rows ++ next_row agent call One ∷ [])) stage agent call
    (Entry agent.at (length rows) One) here)
test_falls NotYet stage agent rows call here = inr
    (kept_finished (shapes_in stage rows) stage agent call (Tested agent.at (length rows)) here)

first_falls : (course : Course) (stage : Stage) (agent : Agent) (rows : List Row) (call : Call) →
    next_call stage agent ≡ Some call → agent.entered ≡ false →
    WaitsOrFalls stage agent rows (first_entry course stage agent rows call)
first_falls OneNull stage agent rows call here new = inl refl
first_falls OneIssue stage agent rows call here new = inl refl
first_falls LookUpAndIssue stage agent rows call here new =
    enter_falls (decide stage.script.ranks rows (next_row agent call One)) stage agent rows call One enter_call here
    (λ shapes item. kept_opened shapes stage agent call item here new)
first_falls OneFlush stage agent rows call here new = inl refl
first_falls OneRequest stage agent rows call here new = inl refl
first_falls ArriveAndLeave stage agent rows call here new =
    arrive_falls (decide stage.script.ranks rows (next_row agent call Arrive)) stage agent rows call here new
first_falls EntryOrTested stage agent rows call here new =
    test_falls (decide stage.script.ranks rows (next_row agent call One)) stage agent rows call here
first_falls OneEntry stage agent rows call here new =
    enter_falls (decide stage.script.ranks rows (next_row agent call One)) stage agent rows call One end_call here
    (λ shapes item. kept_finished shapes stage agent call item here)

entry_falls : (stage : Stage) (agent : Agent) (rows : List Row) (call : Call) → next_call stage agent ≡ Some call →
    WaitsOrFalls stage agent rows (entry_of stage agent rows call)
entry_falls stage agent rows call here = by_entered agent.entered refl
  where
    by_entered : (b : Bool) → agent.entered ≡ b →
        WaitsOrFalls stage agent rows
        (cond b (leave stage agent rows call)
        (first_entry (course_of agent.known.windows call) stage agent rows call))
    by_entered true e = leave_falls stage agent rows call here
    by_entered false e = first_falls (course_of agent.known.windows call) stage agent rows call here e

pub board_step_falls : (stage : Stage) (agent : Agent) (rows : List Row) →
    WaitsOrFalls stage agent rows (board_step stage agent rows)
board_step_falls stage agent rows = by_call (next_call stage agent) refl
  where
    by_call : (o : Option Call) → next_call stage agent ≡ o →
        WaitsOrFalls stage agent rows (option_map_or (entry_of stage agent rows) o (stay_waiting agent rows))
    by_call None e = inl refl
    by_call (Some call) e = entry_falls stage agent rows call e
