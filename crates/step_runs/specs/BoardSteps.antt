-- A step of a rank at the board: an entry, a refusal by the board, or a false test. This project's profile of MPI 3.1,
-- section 11.5.
use Rattle.std.specs.Prelude.{Bool, true, false, if◌then◌else◌, List, [], ◌∷◌, ◌++◌, length}
use Rattle.std.specs.Option.{option_map_or}
use Rattle.rma_types.specs.declared.accesses.Step.{Step}
use Rattle.rma_types.specs.declared.accesses.Step.TheVariants.{Arrive, Leave, One}
use Rattle.rma_types.specs.declared.calls.Call.{Call}
use Rattle.rma_types.specs.declared.classes.Class.{Class}
use Rattle.rma_record.specs.declared.items.Item.{Item}
use Rattle.rma_record.specs.declared.items.Item.TheVariants.{Entry, Tested, Refused}
use Rattle.board_rules.specs.Board.{Decision, Refuse, Allow, NotYet, decide}
use Rattle.board_rules.specs.Entries.{Row}
use Rattle.lawful_runs.specs.Stages.{Stage, shapes_in}
use Rattle.rank_rules.specs.Courses.{Course, OneNull, OneIssue, LookUpAndIssue, OneFlush, OneRequest, ArriveAndLeave}
use Rattle.rank_rules.specs.Courses.{EntryOrTested, OneEntry, course_of}
use Rattle.step_runs.specs.Agents.{Agent, keep_item, end_call, enter_call, next_call}

-- the rank and the board's rows after a step, and whether the rank's next entry was not yet possible
pub record AtBoard : Type 0 where
  pub agent : Agent
  pub rows : List Row
  pub waits : Bool

-- the row of the rank's next entry
abbrev pub next_row : Agent → Call → Step → Row
next_row agent call step = record { rank = agent.rank; number = agent.at; call = call; step = step }

-- nothing is done, and the rank waits
abbrev pub stay_waiting : Agent → List Row → AtBoard
stay_waiting agent rows = record { agent = agent; rows = rows; waits = true }

-- the rank keeps the entry, which is put at the end of the rows, and goes on as after says
abbrev pub put_entry : Stage → Agent → List Row → Call → Step → (Agent → Agent) → AtBoard
put_entry stage agent rows call step after =
    let now = rows ++ next_row agent call step ∷ [] in
    record {
      agent = after (keep_item (shapes_in stage now) stage agent (Entry agent.at (length rows) step));
      rows = now;
      waits = false;
    }

-- the board says no for good, after so many entries: the rank keeps the item and begins its next call
abbrev pub turn_away : Stage → Agent → List Row → Item → AtBoard
turn_away stage agent rows item =
    record { agent = end_call (keep_item (shapes_in stage rows) stage agent item); rows = rows; waits = false }

abbrev pub refuse_entry : Stage → Agent → List Row → Class → AtBoard
refuse_entry stage agent rows class = turn_away stage agent rows (Refused agent.at class (length rows))

-- an entry that is not yet possible leaves the rank waiting
abbrev pub enter_by : Decision → Stage → Agent → List Row → Call → Step → (Agent → Agent) → AtBoard
enter_by (Refuse class) stage agent rows call step after = refuse_entry stage agent rows class
enter_by Allow stage agent rows call step after = put_entry stage agent rows call step after
enter_by NotYet stage agent rows call step after = stay_waiting agent rows

abbrev pub enter : Stage → Agent → List Row → Call → Step → (Agent → Agent) → AtBoard
enter stage agent rows call step after =
    enter_by (decide stage.script.ranks rows (next_row agent call step)) stage agent rows call step after

-- a testwin that is not yet possible is false
abbrev pub test_by : Decision → Stage → Agent → List Row → Call → AtBoard
test_by (Refuse class) stage agent rows call = refuse_entry stage agent rows class
test_by Allow stage agent rows call = put_entry stage agent rows call One end_call
test_by NotYet stage agent rows call = turn_away stage agent rows (Tested agent.at (length rows))

abbrev pub test : Stage → Agent → List Row → Call → AtBoard
test stage agent rows call = test_by (decide stage.script.ranks rows (next_row agent call One)) stage agent rows call

abbrev pub leave : Stage → Agent → List Row → Call → AtBoard
leave stage agent rows call = enter stage agent rows call Leave end_call

-- the Leave of a collective is tried in the step of its Arrive, where that was put
abbrev pub leave_if_entered : Stage → Call → AtBoard → AtBoard
leave_if_entered stage call arrived =
    if arrived.agent.entered then leave stage arrived.agent arrived.rows call else arrived

abbrev pub arrive : Stage → Agent → List Row → Call → AtBoard
arrive stage agent rows call = leave_if_entered stage call (enter stage agent rows call Arrive enter_call)

-- the first entry of a call, by the items that the call has
abbrev pub first_entry : Course → Stage → Agent → List Row → Call → AtBoard
first_entry OneNull stage agent rows call = stay_waiting agent rows
first_entry OneIssue stage agent rows call = stay_waiting agent rows
first_entry LookUpAndIssue stage agent rows call = enter stage agent rows call One enter_call
first_entry OneFlush stage agent rows call = stay_waiting agent rows
first_entry OneRequest stage agent rows call = stay_waiting agent rows
first_entry ArriveAndLeave stage agent rows call = arrive stage agent rows call
first_entry EntryOrTested stage agent rows call = test stage agent rows call
first_entry OneEntry stage agent rows call = enter stage agent rows call One end_call

abbrev pub entry_of : Stage → Agent → List Row → Call → AtBoard
entry_of stage agent rows call =
    if agent.entered then leave stage agent rows call
    else first_entry (course_of agent.known.windows call) stage agent rows call

-- a step of a rank that tries an entry
abbrev pub board_step : Stage → Agent → List Row → AtBoard
board_step stage agent rows = option_map_or (entry_of stage agent rows) (next_call stage agent)
    (stay_waiting agent rows)
