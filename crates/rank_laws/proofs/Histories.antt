-- A rank's history is a path of moves.
use Rattle.std.proofs.Common.{◌≡◌, ℕ, inl, inr, Bool, true, false, not, ◌&&◌, cond, List, [], ◌∷◌, ◌++◌, Option, Some}
use Rattle.std.proofs.Common.{None, refl, sym, ◌∙◌, ap, subst, arith}
use Rattle.std.specs.Prelude.{is_none, ◌≢◌}
use Rattle.std.specs.List.{AllByRecursion}
use Rattle.std.specs.Option.{option_map_or}
use Rattle.std.proofs.lemmas.List.{map-append}
use Rattle.list_laws.proofs.Truths.{both_right, both_left}
use Rattle.rma_types.specs.declared.accesses.Step.TheVariants.{Arrive, Leave, One}
use Rattle.rma_types.specs.declared.calls.Call.{Call}
use Rattle.board_rules.specs.Board.{Decision, Refuse, Allow, NotYet, decide}
use Rattle.board_rules.specs.Entries.{Row}
use Rattle.board_rules.specs.Questions.{question}
use Rattle.board_rules.specs.Rounds.{all_arrived}
use Rattle.rma_types.specs.Actions.{transfer_of}
use Rattle.lawful_runs.specs.Stages.{Stage}
use Rattle.rank_laws.proofs.CallKinds.{moves_nothing}
use Rattle.rank_laws.proofs.Moves.{point, point_at, course_at, Begins, step_by, Entering, OnlyEntry, LookUp, Arriving}
use Rattle.rank_laws.proofs.Moves.{Leaving, IsRefused, Tests, Enters, Path, Stays, one_move, paths_join}
use Rattle.rank_laws.specs.Fronts.{Lows, AreAtMost, Put, rows_put, AreOthers, ArePut}
use Rattle.rank_rules.specs.Courses.{Course, OneNull, OneIssue, LookUpAndIssue, OneFlush, OneRequest, ArriveAndLeave}
use Rattle.rank_rules.specs.Courses.{EntryOrTested, OneEntry, has_entry}
use Rattle.rank_rules.specs.Knowledge.{own_class}
use Rattle.step_runs.specs.Agents.{Agent, next_call, end_call, enter_call, must_draw, awaited_by, begins_with_entry}
use Rattle.step_runs.specs.Agents.{tries_entry}
use Rattle.step_runs.specs.BoardSteps.{next_row, stay_waiting, enter_by, test_by, leave, leave_if_entered, put_entry}
use Rattle.step_runs.specs.BoardSteps.{first_entry, entry_of, board_step}

-- ---- answers

-- a Leave is not refused
leave_or_wait : (b : Bool) (class : _) → cond b Allow NotYet ≡ Refuse class → ⊥
leave_or_wait true class e = cc e
leave_or_wait false class e = cc e

pub is_none_of : {X : Type 0} (o : Option X) → is_none o ≡ true → o ≡ None
is_none_of None e = refl
is_none_of (Some x) e = absurd (cc e)

-- ---- a step at the board

refused_path : (drains : Bool) (stage : Stage) (agent : Agent) (rows : List Row) (lows : Lows) (call : Call)
    (course : Course)
    (class : _) → Begins stage agent call → course_at agent call ≡ course →
    has_entry course ≡ true → decide stage.script.ranks rows (next_row agent call (step_by course)) ≡ Refuse class →
    (after : Agent → Agent) → Path drains stage (point agent rows lows)
    (point_at (enter_by (Refuse class) stage agent rows call (step_by course) after) lows)
refused_path drains stage agent rows lows call course class begins is has answer after =
    one_move drains stage (point agent rows lows) _ (IsRefused call class begins (ap has_entry is ∙ has)
    (ap (λ (c : Course). decide stage.script.ranks rows (next_row agent call (step_by c))) is ∙ answer))

-- the first entry of a call, by the board's answer
first_path : (drains : Bool) (stage : Stage) (agent : Agent) (rows : List Row) (lows : Lows) (call : Call)
    (course : Course)
    (after : Agent → Agent) → Begins stage agent call →
    course_at agent call ≡ course → has_entry course ≡ true → Entering stage agent call (step_by course) after →
    (d : Decision) → decide stage.script.ranks rows (next_row agent call (step_by course)) ≡ d →
    Path drains stage (point agent rows lows) (point_at (enter_by d stage agent rows call (step_by course) after) lows)
first_path drains stage agent rows lows call course after begins is has entering
    (Refuse class) e = refused_path drains stage agent rows lows call course class begins is has e after
first_path drains stage agent rows lows call course after begins is has entering Allow e =
    one_move drains stage (point agent rows lows) _ (Enters call (step_by course) after entering e)
first_path drains stage agent rows lows call course after begins is has entering NotYet e = Stays

-- a Leave, by the board's answer
leave_path : (drains : Bool) (stage : Stage) (agent : Agent) (rows : List Row) (lows : Lows) (call : Call) →
    Entering stage agent call Leave end_call →
    (d : Decision) → decide stage.script.ranks rows (next_row agent call Leave) ≡ d →
    Path drains stage (point agent rows lows) (point_at (enter_by d stage agent rows call Leave end_call) lows)
leave_path drains stage agent rows lows call entering (Refuse class) e =
    absurd (leave_or_wait (all_arrived (question stage.script.ranks rows (next_row agent call Leave))) class e)
leave_path drains stage agent rows lows call entering Allow e = one_move drains stage (point agent rows lows) _
    (Enters call Leave end_call entering e)
leave_path drains stage agent rows lows call entering NotYet e = Stays

-- an Arrive, and then perhaps the Leave
arrive_path : (drains : Bool) (stage : Stage) (agent : Agent) (rows : List Row) (lows : Lows) (call : Call) →
    Begins stage agent call → course_at agent call ≡ ArriveAndLeave →
    (d : Decision) → decide stage.script.ranks rows (next_row agent call Arrive) ≡ d →
    Path drains stage (point agent rows lows) (point_at (leave_if_entered stage call
    (enter_by d stage agent rows call Arrive enter_call)) lows)
arrive_path drains stage agent rows lows call begins is (Refuse class) e =
    refused_path drains stage agent rows lows call
    ArriveAndLeave class begins is refl e enter_call
arrive_path drains stage agent rows lows call begins is Allow e =
    let arrived = put_entry stage agent rows call Arrive enter_call in
    let none = moves_nothing agent.known.windows call ArriveAndLeave is refl in
    paths_join drains stage (point agent rows lows) (point_at arrived lows) _
    (one_move drains stage (point agent rows lows) _ (Enters call Arrive enter_call (Arriving begins is) e))
    (leave_path drains stage arrived.agent arrived.rows lows call (Leaving begins.here refl none)
    (decide stage.script.ranks arrived.rows (next_row arrived.agent call Leave)) refl)
arrive_path drains stage agent rows lows call begins is NotYet e =
    subst (λ b. Path drains stage (point agent rows lows) (point_at
    (cond b (leave stage agent rows call) (stay_waiting agent rows)) lows)) (sym begins.new) Stays

test_path : (drains : Bool) (stage : Stage) (agent : Agent) (rows : List Row) (lows : Lows) (call : Call) →
    Begins stage agent call →
    course_at agent call ≡ EntryOrTested →
    (d : Decision) → decide stage.script.ranks rows (next_row agent call One) ≡ d →
    Path drains stage (point agent rows lows) (point_at (test_by d stage agent rows call) lows)
test_path drains stage agent rows lows call begins is (Refuse class) e = refused_path drains stage agent rows lows call
    EntryOrTested class begins is refl e end_call
test_path drains stage agent rows lows call begins is Allow e =
    one_move drains stage (point agent rows lows) _ (Enters call One end_call (OnlyEntry begins (inr is)) e)
test_path drains stage agent rows lows call begins is NotYet e = one_move drains stage (point agent rows lows) _
    (Tests call begins is e)

-- the first entry, by the items of its call
entry_path : (drains : Bool) (stage : Stage) (agent : Agent) (rows : List Row) (lows : Lows) (call : Call) →
    Begins stage agent call →
    (course : Course) → course_at agent call ≡ course →
    Path drains stage (point agent rows lows) (point_at (first_entry course stage agent rows call) lows)
entry_path drains stage agent rows lows call begins OneNull is = Stays
entry_path drains stage agent rows lows call begins OneIssue is = Stays
entry_path drains stage agent rows lows call begins LookUpAndIssue is =
    first_path drains stage agent rows lows call LookUpAndIssue enter_call begins is refl (LookUp begins is)
    (decide stage.script.ranks rows (next_row agent call One)) refl
entry_path drains stage agent rows lows call begins OneFlush is = Stays
entry_path drains stage agent rows lows call begins OneRequest is = Stays
entry_path drains stage agent rows lows call begins ArriveAndLeave is =
    arrive_path drains stage agent rows lows call begins is (decide stage.script.ranks rows
    (next_row agent call Arrive)) refl
entry_path drains stage agent rows lows call begins EntryOrTested is =
    test_path drains stage agent rows lows call begins is (decide stage.script.ranks rows (next_row agent call One))
    refl
entry_path drains stage agent rows lows call begins OneEntry is =
    first_path drains stage agent rows lows call OneEntry end_call begins is refl (OnlyEntry begins (inl is))
    (decide stage.script.ranks rows (next_row agent call One)) refl

-- what it says that a call begins with an entry
begins_if : (stage : Stage) (agent : Agent) (call : Call) → next_call stage agent ≡ Some call →
    agent.entered ≡ false → begins_with_entry stage agent call ≡ true → Begins stage agent call
begins_if stage agent call here new e =
    let still = not (must_draw stage agent) in
    let passes = is_none (own_class agent.known call) in
    let awaits = is_none (awaited_by agent call) in
    let first = both_left (still && passes && awaits) (has_entry (course_at agent call)) e in
    let second = both_left (still && passes) awaits first in
    record {
      here = here;
      new = new;
      passes = is_none_of (own_class agent.known call) (both_right still passes second);
      awaits = is_none_of (awaited_by agent call) (both_right (still && passes) awaits first);
    }

call_path : (drains : Bool) (stage : Stage) (agent : Agent) (rows : List Row) (lows : Lows) (call : Call) →
    next_call stage agent ≡ Some call → (b : Bool) → agent.entered ≡ b →
    cond b (is_none (transfer_of call)) (begins_with_entry stage agent call) ≡ true →
    Path drains stage (point agent rows lows) (point_at (cond b (leave stage agent rows call)
    (first_entry (course_at agent call) stage agent rows call)) lows)
call_path drains stage agent rows lows call here true e tries =
    leave_path drains stage agent rows lows call (Leaving here e (is_none_of (transfer_of call) tries))
    (decide stage.script.ranks rows (next_row agent call Leave)) refl
call_path drains stage agent rows lows call here false e tries = entry_path drains stage agent rows lows call
    (begins_if stage agent call here e tries) (course_at agent call) refl

-- a step at the board is a path
pub look_path : (drains : Bool) (stage : Stage) (agent : Agent) (rows : List Row) (lows : Lows) →
    tries_entry stage agent ≡ true →
    Path drains stage (point agent rows lows) (point_at (board_step stage agent rows) lows)
look_path drains stage agent rows lows tries =
    elim (next_call stage agent) as (λ (o : Option Call). next_call stage agent ≡ o →
    option_map_or (λ call. cond agent.entered (is_none (transfer_of call))
    (begins_with_entry stage agent call)) o false ≡ true →
    Path drains stage (point agent rows lows) (point_at (option_map_or (entry_of stage agent rows) o
    (stay_waiting agent rows)) lows)) [
      | None ↦ λ e t. Stays
      | Some call ↦ λ e t. call_path drains stage agent rows lows call e agent.entered refl t
    ] refl tries

-- ---- lows

pub most_same : (lows : Lows) → AreAtMost lows lows
most_same lows cell = omega arith

pub most_join : (a b c : Lows) → AreAtMost a b → AreAtMost b c → AreAtMost a c
most_join a b c h k cell = let x = h cell in let y = k cell in omega arith

pub put_rises : (ranks : ℕ) (before : List Put) (lows : Lows) (puts : List Put) (after : Lows) →
    ArePut ranks before lows puts after → AreAtMost lows after
put_rises ranks before lows [] after h = h
put_rises ranks before lows (put ∷ puts) after h =
    most_join lows h.0 after h.1 (put_rises ranks (before ++ put ∷ []) h.0 puts after h.4)

pub others_rows : (rank : ℕ) (puts : List Put) → AreOthers rank puts →
    AllByRecursion (λ (row : Row). row.rank ≢ rank) (rows_put puts)
others_rows rank [] h = tt
others_rows rank (put ∷ puts) h = (h.0, others_rows rank puts h.1)

pub rows_joined : (a b : List Put) → rows_put (a ++ b) ≡ rows_put a ++ rows_put b
rows_joined a b = map-append (λ (put : Put). put.row) a b
