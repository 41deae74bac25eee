-- What a step at the board adds to the rank's log, and to the rows: no touch, and an item for each row.
use Rattle.std.proofs.Common.{◌≡◌, ℕ, ◌+◌, Bool, true, false, cond, List, [], ◌∷◌, ◌++◌, length, Option, Some, None}
use Rattle.std.proofs.Common.{refl, sym, subst, append_assoc, append-nil, length-append}
use Rattle.std.specs.List.{AllByRecursion}
use Rattle.std.specs.Option.{option_map_or}
use Rattle.rma_types.specs.declared.accesses.Step.{Step}
use Rattle.rma_types.specs.declared.accesses.Step.TheVariants.{Arrive, Leave, One}
use Rattle.rma_types.specs.declared.calls.Call.{Call}
use Rattle.rma_types.specs.declared.classes.Class.{Class}
use Rattle.rma_record.specs.declared.items.Item.{Item}
use Rattle.rma_record.specs.declared.items.Item.TheVariants.{Entry, Tested, Refused}
use Rattle.board_rules.specs.Board.{Decision, Refuse, Allow, NotYet, decide}
use Rattle.board_rules.specs.Entries.{Row}
use Rattle.board_rules.specs.Questions.{question}
use Rattle.board_rules.specs.Rounds.{all_arrived}
use Rattle.lawful_runs.specs.Items.{is_touch, is_entry}
use Rattle.lawful_runs.specs.Stages.{Stage}
use Rattle.rank_rules.specs.Courses.{Course, OneNull, OneIssue, LookUpAndIssue, OneFlush, OneRequest, ArriveAndLeave}
use Rattle.rank_rules.specs.Courses.{EntryOrTested, OneEntry, course_of}
use Rattle.step_runs.specs.Agents.{Agent, end_call, enter_call, next_call}
use Rattle.step_runs.specs.BoardSteps.{AtBoard, next_row, stay_waiting, put_entry, enter_by, test_by, leave}
use Rattle.step_runs.specs.BoardSteps.{leave_if_entered}
use Rattle.step_runs.specs.BoardSteps.{first_entry, entry_of, board_step}

-- the items of a step at the board, the first entry of which has this place, and the rows that it puts
pub data AreItemsOfRows (at : ℕ) : List Item → List Row → Type 0 where
  NoItem : AreItemsOfRows at [] []
  Quiet : (item : Item) → is_touch item ≡ false → is_entry item ≡ false → AreItemsOfRows at (item ∷ []) []
  Single : (row : Row) → AreItemsOfRows at (Entry row.number at row.step ∷ []) (row ∷ [])
  Double : (first second : Row) (next : ℕ) → next ≡ at + 1 → second.step ≡ Leave →
      AreItemsOfRows at (Entry first.number at first.step ∷ Entry second.number next second.step ∷ [])
      (first ∷ second ∷ [])

-- an entry of the rank's next call
abbrev pub IsNextRow : Option Call → Agent → Row → Type 0
IsNextRow next agent row = (row.rank ≡ agent.rank) × (row.number ≡ agent.at) × (next ≡ Some row.call)

-- what a step adds, where this is the rank's next call
pub record Adds (next : Option Call) (agent : Agent) (rows : List Row) (step : AtBoard) : Type 0 where
  pub items : List Item
  pub more : List Row
  pub log : step.agent.log ≡ agent.log ++ items
  pub now : step.rows ≡ rows ++ more
  pub are : AreItemsOfRows (length rows) items more
  pub own : AllByRecursion (IsNextRow next agent) more
  pub mine : step.agent.rank ≡ agent.rank
  pub pending : step.agent.pending ≡ agent.pending

adds_none : (next : Option Call) (agent : Agent) (rows : List Row) → Adds next agent rows (stay_waiting agent rows)
adds_none next agent rows = record {
  items = [];
  more = [];
  log = sym (append-nil agent.log);
  now = sym (append-nil rows);
  are = NoItem;
  own = tt;
  mine = refl;
  pending = refl;
}

adds_finished : (stage : Stage) (agent : Agent) (rows : List Row) (call : Call) (step : Step) →
    Adds (Some call) agent rows (put_entry stage agent rows call step end_call)
adds_finished stage agent rows call step = record {
  items = Entry agent.at (length rows) step ∷ [];
  more = next_row agent call step ∷ [];
  log = refl;
  now = refl;
  are = Single (next_row agent call step);
  own = ((refl, refl, refl), tt);
  mine = refl;
  pending = refl;
}

adds_opened : (stage : Stage) (agent : Agent) (rows : List Row) (call : Call) (step : Step) →
    Adds (Some call) agent rows (put_entry stage agent rows call step enter_call)
adds_opened stage agent rows call step = record {
  items = Entry agent.at (length rows) step ∷ [];
  more = next_row agent call step ∷ [];
  log = refl;
  now = refl;
  are = Single (next_row agent call step);
  own = ((refl, refl, refl), tt);
  mine = refl;
  pending = refl;
}

finishes : (d : Decision) (stage : Stage) (agent : Agent) (rows : List Row) (call : Call) (step : Step) →
    Adds (Some call) agent rows (enter_by d stage agent rows call step end_call)
finishes (Refuse class) stage agent rows call step = record {
  items = Refused agent.at class (length rows) ∷ [];
  more = [];
  log = refl;
  now = sym (append-nil rows);
  are = Quiet (Refused agent.at class (length rows)) refl refl;
  own = tt;
  mine = refl;
  pending = refl;
}
finishes Allow stage agent rows call step = adds_finished stage agent rows call step
finishes NotYet stage agent rows call step = adds_none (Some call) agent rows

opens : (d : Decision) (stage : Stage) (agent : Agent) (rows : List Row) (call : Call) (step : Step) →
    Adds (Some call) agent rows (enter_by d stage agent rows call step enter_call)
opens (Refuse class) stage agent rows call step = record {
  items = Refused agent.at class (length rows) ∷ [];
  more = [];
  log = refl;
  now = sym (append-nil rows);
  are = Quiet (Refused agent.at class (length rows)) refl refl;
  own = tt;
  mine = refl;
  pending = refl;
}
opens Allow stage agent rows call step = adds_opened stage agent rows call step
opens NotYet stage agent rows call step = adds_none (Some call) agent rows

tests : (d : Decision) (stage : Stage) (agent : Agent) (rows : List Row) (call : Call) →
    Adds (Some call) agent rows (test_by d stage agent rows call)
tests (Refuse class) stage agent rows call = record {
  items = Refused agent.at class (length rows) ∷ [];
  more = [];
  log = refl;
  now = sym (append-nil rows);
  are = Quiet (Refused agent.at class (length rows)) refl refl;
  own = tt;
  mine = refl;
  pending = refl;
}
tests Allow stage agent rows call = adds_finished stage agent rows call One
tests NotYet stage agent rows call = record {
  items = Tested agent.at (length rows) ∷ [];
  more = [];
  log = refl;
  now = sym (append-nil rows);
  are = Quiet (Tested agent.at (length rows)) refl refl;
  own = tt;
  mine = refl;
  pending = refl;
}

-- the Leave after an Arrive in one step; it is never refused
leaves : (d : Decision) (stage : Stage) (agent : Agent) (rows : List Row) (call : Call) →
    ((class : Class) → d ≡ Refuse class → ⊥) →
    (let arrived = put_entry stage agent rows call Arrive enter_call in
    Adds (Some call) agent rows (enter_by d stage arrived.agent arrived.rows call Leave end_call))
leaves (Refuse class) stage agent rows call never = absurd (never class refl)
leaves Allow stage agent rows call never = record {
  items = Entry agent.at (length rows) Arrive ∷ Entry agent.at
      (length (rows ++ next_row agent call Arrive ∷ [])) Leave ∷ [];
  more = next_row agent call Arrive ∷ next_row agent call Leave ∷ [];
  log = append_assoc agent.log (Entry agent.at (length rows) Arrive ∷ [])
      (Entry agent.at (length (rows ++ next_row agent call Arrive ∷ [])) Leave ∷ []);
  now = append_assoc rows (next_row agent call Arrive ∷ []) (next_row agent call Leave ∷ []);
  are = Double (next_row agent call Arrive) (next_row agent call Leave)
      (length (rows ++ next_row agent call Arrive ∷ []))
      (length-append rows (next_row agent call Arrive ∷ [])) refl;
  own = ((refl, refl, refl), ((refl, refl, refl), tt));
  mine = refl;
  pending = refl;
}
leaves NotYet stage agent rows call never = record {
  items = Entry agent.at (length rows) Arrive ∷ [];
  more = next_row agent call Arrive ∷ [];
  log = refl;
  now = refl;
  are = Single (next_row agent call Arrive);
  own = ((refl, refl, refl), tt);
  mine = refl;
  pending = refl;
}

leave_or_wait : (b : Bool) (class : Class) → cond b Allow NotYet ≡ Refuse class → ⊥
leave_or_wait true class e = cc e
leave_or_wait false class e = cc e

arrives : (d : Decision) (stage : Stage) (agent : Agent) (rows : List Row) (call : Call) → agent.entered ≡ false →
    Adds (Some call) agent rows (leave_if_entered stage call (enter_by d stage agent rows call Arrive enter_call))
arrives (Refuse class) stage agent rows call new = opens (Refuse class) stage agent rows call Arrive
arrives Allow stage agent rows call new =
    let arrived = put_entry stage agent rows call Arrive enter_call in
    leaves (decide stage.script.ranks arrived.rows (next_row arrived.agent call Leave)) stage agent rows call
    (λ class e. leave_or_wait
    (all_arrived (question stage.script.ranks arrived.rows (next_row arrived.agent call Leave))) class e)
arrives NotYet stage agent rows call new =
    subst (λ b. Adds (Some call) agent rows (cond b (leave stage agent rows call) (stay_waiting agent rows))) (sym new)
    (adds_none (Some call) agent rows)

first_adds : (course : Course) (stage : Stage) (agent : Agent) (rows : List Row) (call : Call) → agent.entered ≡ false →
    Adds (Some call) agent rows (first_entry course stage agent rows call)
first_adds OneNull stage agent rows call new = adds_none (Some call) agent rows
first_adds OneIssue stage agent rows call new = adds_none (Some call) agent rows
first_adds LookUpAndIssue stage agent rows call new =
    opens (decide stage.script.ranks rows (next_row agent call One)) stage agent rows call One
first_adds OneFlush stage agent rows call new = adds_none (Some call) agent rows
first_adds OneRequest stage agent rows call new = adds_none (Some call) agent rows
first_adds ArriveAndLeave stage agent rows call new =
    arrives (decide stage.script.ranks rows (next_row agent call Arrive)) stage agent rows call new
first_adds EntryOrTested stage agent rows call new =
    tests (decide stage.script.ranks rows (next_row agent call One)) stage agent rows call
first_adds OneEntry stage agent rows call new =
    finishes (decide stage.script.ranks rows (next_row agent call One)) stage agent rows call One

entry_adds : (stage : Stage) (agent : Agent) (rows : List Row) (call : Call) →
    Adds (Some call) agent rows (entry_of stage agent rows call)
entry_adds stage agent rows call = by_entered agent.entered refl
  where
    by_entered : (b : Bool) → agent.entered ≡ b →
        Adds (Some call) agent rows (cond b (leave stage agent rows call)
        (first_entry (course_of agent.known.windows call) stage agent rows call))
    by_entered true e = finishes (decide stage.script.ranks rows (next_row agent call Leave)) stage agent rows call
        Leave
    by_entered false e = first_adds (course_of agent.known.windows call) stage agent rows call e

-- a step at the board adds no touch, and an entry for each row that it puts
pub board_adds : (stage : Stage) (agent : Agent) (rows : List Row) →
    Adds (next_call stage agent) agent rows (board_step stage agent rows)
board_adds stage agent rows = by_call (next_call stage agent)
  where
    by_call : (o : Option Call) → Adds o agent rows
        (option_map_or (entry_of stage agent rows) o (stay_waiting agent rows))
    by_call None = adds_none None agent rows
    by_call (Some call) = entry_adds stage agent rows call
