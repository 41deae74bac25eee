-- A rank that stops has ended, or stands at an entry that is not yet possible.
use Rattle.std.proofs.Common.{◌≡◌, ℕ, ◌+◌, Bool, true, false, cond, not, ◌&&◌, List, [], ◌∷◌, ◌++◌, length, Option}
use Rattle.std.proofs.Common.{Some, None, IsTrue, refl, sym, ◌∙◌, ap, arith, length-append}
use Rattle.std.specs.Prelude.{is_none}
use Rattle.std.specs.Option.{option_map_or}
use Rattle.list_laws.proofs.Truths.{both_left, both_right}
use Rattle.rma_types.specs.declared.accesses.Step.{Step}
use Rattle.rma_types.specs.declared.accesses.Step.TheVariants.{Arrive, Leave, One}
use Rattle.rma_types.specs.declared.calls.Call.{Call}
use Rattle.board_rules.specs.Board.{Decision, Refuse, Allow, NotYet, decide}
use Rattle.board_rules.specs.Entries.{Row}
use Rattle.rma_types.specs.Actions.{transfer_of}
use Rattle.lawful_runs.specs.BoardLaw.{first_row}
use Rattle.lawful_runs.specs.CallItems.{may_stand}
use Rattle.lawful_runs.specs.Stages.{Stage}
use Rattle.rank_laws.proofs.CallKinds.{first_step_is}
use Rattle.rank_laws.proofs.Histories.{is_none_of}
use Rattle.rank_laws.proofs.Moves.{course_at, step_by}
use Rattle.rank_rules.specs.Courses.{Course, OneNull, OneIssue, LookUpAndIssue, OneFlush, OneRequest, ArriveAndLeave}
use Rattle.rank_rules.specs.Courses.{EntryOrTested, OneEntry, has_entry}
use Rattle.rank_rules.specs.Knowledge.{own_class}
use Rattle.step_runs.specs.Agents.{Agent, next_call, end_call, enter_call, must_draw, awaited_by, begins_with_entry}
use Rattle.step_runs.specs.Agents.{tries_entry}
use Rattle.step_runs.specs.BoardSteps.{AtBoard, next_row, stay_waiting, put_entry, enter_by, test_by, leave}
use Rattle.step_runs.specs.BoardSteps.{leave_if_entered}
use Rattle.step_runs.specs.BoardSteps.{first_entry, entry_of, board_step}

-- the rank's next entry is not yet possible: the first of its call, or the Leave
pub data WaitsAt (stage : Stage) (agent : Agent) (rows : List Row) (call : Call) : Type 0 where
  WaitsFirst : agent.entered ≡ false → own_class agent.known call ≡ None → IsTrue (may_stand (course_at agent call)) →
      decide stage.script.ranks rows (first_row agent.rank agent.at call) ≡ NotYet → WaitsAt stage agent rows call
  WaitsToLeave : agent.entered ≡ true → transfer_of call ≡ None →
      decide stage.script.ranks rows (next_row agent call Leave) ≡ NotYet → WaitsAt stage agent rows call

-- ---- answers that leave the rank waiting

goes_on : (step : AtBoard) (agent : Agent) (rows : List Row) → step.waits ≡ false → step ≡ stay_waiting agent rows → ⊥
goes_on step agent rows off e = cc (sym off ∙ ap (λ (s : AtBoard). s.waits) e)

not_entered : (d : Decision) (stage : Stage) (agent : Agent) (rows : List Row) (call : Call) (step : Step)
    (after : Agent → Agent) → enter_by d stage agent rows call step after ≡ stay_waiting agent rows → d ≡ NotYet
not_entered (Refuse class) stage agent rows call step after e = absurd (goes_on _ agent rows refl e)
not_entered Allow stage agent rows call step after e = absurd (goes_on _ agent rows refl e)
not_entered NotYet stage agent rows call step after e = refl

not_tested : (d : Decision) (stage : Stage) (agent : Agent) (rows : List Row) (call : Call) →
    test_by d stage agent rows call ≡ stay_waiting agent rows → ⊥
not_tested (Refuse class) stage agent rows call e = goes_on _ agent rows refl e
not_tested Allow stage agent rows call e = goes_on _ agent rows refl e
not_tested NotYet stage agent rows call e = goes_on _ agent rows refl e

no_longer : (rows : List Row) (row : Row) → rows ++ row ∷ [] ≡ rows → ⊥
no_longer rows row e = same (length (rows ++ row ∷ [])) (length rows) (length-append rows (row ∷ [])) (ap length e)
  where
    same : (a b : ℕ) → a ≡ b + 1 → a ≡ b → ⊥
    same a b e k = omega arith

-- a Leave after the Arrive of the same step comes after one entry more
left_later : (d : Decision) (stage : Stage) (agent next : Agent) (rows : List Row) (row : Row) (call : Call) →
    enter_by d stage next (rows ++ row ∷ []) call Leave end_call ≡ stay_waiting agent rows → ⊥
left_later (Refuse class) stage agent next rows row call e = goes_on _ agent rows refl e
left_later Allow stage agent next rows row call e = goes_on _ agent rows refl e
left_later NotYet stage agent next rows row call e = no_longer rows row (ap (λ (s : AtBoard). s.rows) e)

not_arrived : (d : Decision) (stage : Stage) (agent : Agent) (rows : List Row) (call : Call) →
    leave_if_entered stage call (enter_by d stage agent rows call Arrive enter_call) ≡ stay_waiting agent rows → d
    ≡ NotYet
not_arrived (Refuse class) stage agent rows call e = absurd (goes_on _ agent rows refl e)
not_arrived Allow stage agent rows call e =
    let arrived = put_entry stage agent rows call Arrive enter_call in
    absurd (left_later (decide stage.script.ranks arrived.rows (next_row arrived.agent call Leave)) stage agent
    arrived.agent rows (next_row agent call Arrive) call e)
not_arrived NotYet stage agent rows call e = refl

-- ---- calls

-- the first entry of a call, by its items
first_waits : (stage : Stage) (agent : Agent) (rows : List Row) (call : Call) (course : Course) →
    has_entry course ≡ true → first_entry course stage agent rows call ≡ stay_waiting agent rows →
    IsTrue (may_stand course) × (decide stage.script.ranks rows (next_row agent call (step_by course)) ≡ NotYet)
first_waits stage agent rows call OneNull has e = absurd (cc has)
first_waits stage agent rows call OneIssue has e = absurd (cc has)
first_waits stage agent rows call LookUpAndIssue has e = (
  refl,
  not_entered (decide stage.script.ranks rows (next_row agent call One)) stage agent rows call One enter_call
      e,
)
first_waits stage agent rows call OneFlush has e = absurd (cc has)
first_waits stage agent rows call OneRequest has e = absurd (cc has)
first_waits stage agent rows call ArriveAndLeave has e =
    (refl, not_arrived (decide stage.script.ranks rows (next_row agent call Arrive)) stage agent rows call e)
first_waits stage agent rows call EntryOrTested has e =
    absurd (not_tested (decide stage.script.ranks rows (next_row agent call One)) stage agent rows call e)
first_waits stage agent rows call OneEntry has e =
    (refl, not_entered (decide stage.script.ranks rows (next_row agent call One)) stage agent rows call One end_call e)

waits_at_call : (stage : Stage) (agent : Agent) (rows : List Row) (call : Call) (b : Bool) → agent.entered ≡ b →
    cond b (is_none (transfer_of call)) (begins_with_entry stage agent call) ≡ true →
    cond b (leave stage agent rows call) (first_entry (course_at agent call) stage agent rows call)
    ≡ stay_waiting agent rows → WaitsAt stage agent rows call
waits_at_call stage agent rows call true inside tries e =
    WaitsToLeave inside (is_none_of (transfer_of call) tries)
    (not_entered (decide stage.script.ranks rows (next_row agent call Leave)) stage agent rows call Leave end_call e)
waits_at_call stage agent rows call false new tries e =
    let still = not (must_draw stage agent) in
    let passes = is_none (own_class agent.known call) in
    let awaits = is_none (awaited_by agent call) in
    let second = both_left (still && passes) awaits
    (both_left (still && passes && awaits) (has_entry (course_at agent call)) tries) in
    let is = first_waits stage agent rows call (course_at agent call)
    (both_right (still && passes && awaits) (has_entry (course_at agent call)) tries) e in
    WaitsFirst new (is_none_of (own_class agent.known call) (both_right still passes second)) is.0
    (ap (λ step. decide stage.script.ranks rows (next_row agent call step))
    (sym (first_step_is agent.known.windows call)) ∙ is.1)

-- a rank whose next entry is not yet possible stands at a call
pub waits_there : (stage : Stage) (agent : Agent) (rows : List Row) → tries_entry stage agent ≡ true →
    board_step stage agent rows ≡ stay_waiting agent rows →
    (call : Call) × (next_call stage agent ≡ Some call) × WaitsAt stage agent rows call
waits_there stage agent rows tries e = by (next_call stage agent) refl tries e
  where
    by : (o : Option Call) → next_call stage agent ≡ o →
        option_map_or (λ call. cond agent.entered (is_none (transfer_of call)) (begins_with_entry stage agent call)) o
        false ≡ true →
        option_map_or (entry_of stage agent rows) o (stay_waiting agent rows) ≡ stay_waiting agent rows →
        (call : Call) × (next_call stage agent ≡ Some call) × WaitsAt stage agent rows call
    by None none t w = absurd (cc t)
    by (Some call) here t w = (call, here, waits_at_call stage agent rows call agent.entered refl t w)
