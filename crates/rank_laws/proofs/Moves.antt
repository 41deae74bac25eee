-- The steps of a rank's history as small moves, each with the facts under which it is made.
use Rattle.std.proofs.Common.{◌≡◌, ℕ, ◌⊎◌, Bool, true, false, List, [], ◌++◌, length, Some, None, refl}
use Rattle.std.specs.Prelude.{slice_get, ◌≢◌}
use Rattle.std.specs.List.{AllByRecursion}
use Rattle.rma_types.specs.declared.accesses.Access.{Access}
use Rattle.rma_types.specs.declared.accesses.Step.{Step}
use Rattle.rma_types.specs.declared.accesses.Step.TheVariants.{Arrive, Leave, One}
use Rattle.rma_types.specs.declared.calls.Call.{Call}
use Rattle.rma_types.specs.declared.classes.Class.{Class}
use Rattle.rma_record.specs.declared.items.Item.{Item}
use Rattle.rma_record.specs.declared.items.Item.TheVariants.{Issue, Null, Flush, Request, Tested, Refused, Ended}
use Rattle.board_rules.specs.Board.{Refuse, Allow, NotYet, decide}
use Rattle.board_rules.specs.Entries.{Row}
use Rattle.rma_types.specs.declared.actions.Transfer.{Transfer}
use Rattle.rma_types.specs.Actions.{transfer_of}
use Rattle.call_rules.specs.Pieces.{pieces}
use Rattle.lawful_runs.specs.Accesses.{transfer_at}
use Rattle.lawful_runs.specs.Stages.{Stage, calls_at}
use Rattle.rank_laws.specs.Deliveries.{AreTouches, AreTouchesOf, delivered}
use Rattle.rank_laws.specs.Fronts.{Lows, AreAtMost}
use Rattle.rank_rules.specs.Courses.{Course, OneNull, OneIssue, LookUpAndIssue, OneFlush, OneRequest, ArriveAndLeave}
use Rattle.rank_rules.specs.Courses.{EntryOrTested, OneEntry, course_of, has_entry, access_of}
use Rattle.rank_rules.specs.Knowledge.{own_class}
use Rattle.rank_rules.specs.Pending.{first_in_way}
use Rattle.rank_rules.specs.declared.pending.PendingAccess.{PendingAccess}
use Rattle.step_runs.specs.Agents.{Agent, next_call, keep_item, end_call, enter_call, is_seeded, awaited_by}
use Rattle.step_runs.specs.BoardSteps.{AtBoard, next_row, put_entry, turn_away}
use Rattle.step_runs.specs.DataSteps.{no_shapes, with_item, is_at_once, with_issue}

-- where a rank's history is: the rank, the entries that it knows, and its lows
pub record Point : Type 0 where
  pub agent : Agent
  pub rows : List Row
  pub lows : Lows

abbrev pub point : Agent → List Row → Lows → Point
point agent rows lows = record { agent = agent; rows = rows; lows = lows }

-- the point after a step at the board
abbrev pub point_at : AtBoard → Lows → Point
point_at step lows = record { agent = step.agent; rows = step.rows; lows = lows }

abbrev pub course_at : Agent → Call → Course
course_at agent call = course_of agent.known.windows call

-- the rank begins the call, which it does not refuse and which waits for no access
pub record Begins (stage : Stage) (agent : Agent) (call : Call) : Type 0 where
  pub here : next_call stage agent ≡ Some call
  pub new : agent.entered ≡ false
  pub passes : own_class agent.known call ≡ None
  pub awaits : awaited_by agent call ≡ None

-- the step of the first entry of a call, by its items
abbrev pub step_by : Course → Step
step_by OneNull = One
step_by OneIssue = One
step_by LookUpAndIssue = One
step_by OneFlush = One
step_by OneRequest = One
step_by ArriveAndLeave = Arrive
step_by EntryOrTested = One
step_by OneEntry = One

-- the item of a call without the board and without an access
abbrev pub IsPlainItem : Course → ℕ → Item → Type 0
IsPlainItem OneNull number item = item ≡ Null number
IsPlainItem OneIssue number item = ⊥
IsPlainItem LookUpAndIssue number item = ⊥
IsPlainItem OneFlush number item = item ≡ Flush number
IsPlainItem OneRequest number item = item ≡ Request number
IsPlainItem ArriveAndLeave number item = ⊥
IsPlainItem EntryOrTested number item = ⊥
IsPlainItem OneEntry number item = ⊥

-- an entry of a step, and how the rank goes on after it
pub data Entering (stage : Stage) (agent : Agent) (call : Call) : Step → (Agent → Agent) → Type 0 where
  -- the only one of its call
  OnlyEntry : Begins stage agent call → (course_at agent call ≡ OneEntry) ⊎ (course_at agent call ≡ EntryOrTested) →
      Entering stage agent call One end_call
  LookUp : Begins stage agent call → course_at agent call ≡ LookUpAndIssue → Entering stage agent call One enter_call
  Arriving : Begins stage agent call → course_at agent call ≡ ArriveAndLeave →
      Entering stage agent call Arrive enter_call
  Leaving : next_call stage agent ≡ Some call → agent.entered ≡ true → transfer_of call ≡ None →
      Entering stage agent call Leave end_call

-- the rank issues the access of its call: as its one item, or after its look-up
pub record Issuing (stage : Stage) (agent : Agent) (call : Call) (t : Transfer) (access : Access) : Type 0 where
  pub here : next_call stage agent ≡ Some call
  pub moves : transfer_of call ≡ Some t
  pub reaches : access_of agent.known.windows call ≡ Some access
  pub begun : (Begins stage agent call × (course_at agent call ≡ OneIssue)) ⊎ (agent.entered ≡ true)

-- Why a pending access is delivered. Only a rank that drains, and makes no other step any more, delivers what is left
-- without another reason.
pub data Reason (drains : Bool) (stage : Stage) (agent : Agent) (at : ℕ) : Type 0 where
  IsDrawn : is_seeded stage.delay ≡ true → Reason drains stage agent at
  IsAwaited : (call : Call) → next_call stage agent ≡ Some call → agent.entered ≡ false →
      own_class agent.known call ≡ None →
      awaited_by agent call ≡ Some at → Reason drains stage agent at
  IsAtEnd : next_call stage agent ≡ None → at ≡ 0 → Reason drains stage agent at
  IsDrained : drains ≡ true → at ≡ 0 → Reason drains stage agent at

-- no look-up is open
abbrev pub IsClosed : Stage → Agent → Type 0
IsClosed stage agent = (call : Call) → next_call stage agent ≡ Some call → agent.entered ≡ true →
    transfer_of call ≡ None

-- the pending access at a place may be delivered: it gives way to none
pub record IsDue (drains : Bool) (stage : Stage) (agent : Agent) (at : ℕ) : Type 0 where
  pub closed : IsClosed stage agent
  pub free : first_in_way agent.pending at ≡ None
  pub reason : Reason drains stage agent at

-- the rank after an Issue whose touches are made at once
abbrev pub issued_whole : Stage → Agent → Access → List Item → Agent
issued_whole stage agent access items =
    let next = with_item stage agent (Issue agent.at access) in record next { log = next.log ++ items }

-- one move, with the point after it
pub data Move (drains : Bool) (stage : Stage) (p : Point) : Point → Type 0 where
  -- others put entries
  Learns : (more : List Row) → AllByRecursion (λ (row : Row). row.rank ≢ p.agent.rank) more →
      Move drains stage p (record p { rows = p.rows ++ more })
  -- others touch cells
  Rises : (after : Lows) → AreAtMost p.lows after → Move drains stage p (record p { lows = after })
  -- all calls have their items, and nothing is pending
  Ends : next_call stage p.agent ≡ None → p.agent.pending ≡ [] → p.agent.ended ≡ false →
      Move drains stage p (record p { agent = record (keep_item no_shapes stage p.agent Ended) { ended = true } })
  -- the rank refuses its call
  RefusesAlone : (call : Call) (class : Class) → next_call stage p.agent ≡ Some call → p.agent.entered ≡ false →
      own_class p.agent.known call ≡ Some class →
      Move drains stage p (record p { agent = with_item stage p.agent (Refused p.agent.at class 0) })
  -- the board refuses its call
  IsRefused : (call : Call) (class : Class) → Begins stage p.agent call → has_entry (course_at p.agent call) ≡ true →
      decide stage.script.ranks p.rows (next_row p.agent call (step_by (course_at p.agent call))) ≡ Refuse class →
      Move drains stage p (record p {
        agent = (turn_away stage p.agent p.rows
            (Refused p.agent.at class (length p.rows))).agent;
      })
  -- a testwin is false
  Tests : (call : Call) → Begins stage p.agent call → course_at p.agent call ≡ EntryOrTested →
      decide stage.script.ranks p.rows (next_row p.agent call One) ≡ NotYet →
      Move drains stage p (record p {
        agent = (turn_away stage p.agent p.rows
            (Tested p.agent.at (length p.rows))).agent;
      })
  -- a null target, a flush or a request
  Passes : (call : Call) (item : Item) → Begins stage p.agent call →
      IsPlainItem (course_at p.agent call) p.agent.at item →
      Move drains stage p (record p { agent = with_item stage p.agent item })
  -- an entry
  Enters : (call : Call) (step : Step) (after : Agent → Agent) → Entering stage p.agent call step after →
      decide stage.script.ranks p.rows (next_row p.agent call step) ≡ Allow →
      Move drains stage p (point_at (put_entry stage p.agent p.rows call step after) p.lows)
  -- an Issue whose access is pending from then on
  Issues : (call : Call) (t : Transfer) (access : Access) → Issuing stage p.agent call t access →
      is_at_once stage.delay access ≡ false → Move drains stage p
      (record p { agent = with_issue stage p.agent access t })
  -- an Issue and its touches
  IssuesWhole : (call : Call) (t : Transfer) (access : Access) (items : List Item) (after : Lows) →
      Issuing stage p.agent call t access → is_at_once stage.delay access ≡ true →
      AreTouches t (length p.agent.log) 0 (pieces stage.layout access t.dtype) p.lows items after →
      Move drains stage p (record p { agent = issued_whole stage p.agent access items; lows = after })
  -- a draw
  Draws : (state : ℕ) → p.agent.entered ≡ false →
      Move drains stage p (record p { agent = record p.agent { drawn = true; draws = state } })
  -- a delivery
  Delivers : (at : ℕ) (one : PendingAccess) (items : List Item) (after : Lows) →
      slice_get p.agent.pending at ≡ Some one →
      IsDue drains stage p.agent at →
      AreTouchesOf stage one (transfer_at (calls_at stage p.agent.rank) one.number) p.lows items after →
      Move drains stage p (record p { agent = delivered p.agent at items; lows = after })

-- moves, one after the other
pub data Path (drains : Bool) (stage : Stage) (p : Point) : Point → Type 0 where
  Stays : Path drains stage p p
  Goes : (q r : Point) → Path drains stage p q → Move drains stage q r → Path drains stage p r

pub one_move : (drains : Bool) (stage : Stage) (p q : Point) → Move drains stage p q → Path drains stage p q
one_move drains stage p q move = Goes p q Stays move

-- what a step may do, a rank that drains may do
pub move_weaker : (drains : Bool) (stage : Stage) (p q : Point) → Move drains stage p q → Move true stage p q
move_weaker drains stage p _ (Learns more others) = Learns more others
move_weaker drains stage p _ (Rises after rise) = Rises after rise
move_weaker drains stage p _ (Ends past empty going) = Ends past empty going
move_weaker drains stage p _ (RefusesAlone call class here new refuses) = RefusesAlone call class here new refuses
move_weaker drains stage p _ (IsRefused call class begins has answer) = IsRefused call class begins has answer
move_weaker drains stage p _ (Tests call begins course answer) = Tests call begins course answer
move_weaker drains stage p _ (Passes call item begins plain) = Passes call item begins plain
move_weaker drains stage p _ (Enters call step after entering answer) = Enters call step after entering answer
move_weaker drains stage p _ (Issues call t access issuing later) = Issues call t access issuing later
move_weaker drains stage p _ (IssuesWhole call t access items after issuing once touches) =
    IssuesWhole call t access items after issuing once touches
move_weaker drains stage p _ (Draws state new) = Draws state new
move_weaker drains stage p _ (Delivers at one items after there due touches) =
    Delivers at one items after there (due_weaker due.reason) touches
  where
    due_weaker : Reason drains stage p.agent at → IsDue true stage p.agent at
    due_weaker (IsDrawn seeded) = record { closed = due.closed; free = due.free; reason = IsDrawn seeded }
    due_weaker (IsAwaited call here new passes awaits) = record {
      closed = due.closed;
      free = due.free;
      reason = IsAwaited call here new passes awaits;
    }
    due_weaker (IsAtEnd none first) = record { closed = due.closed; free = due.free; reason = IsAtEnd none first }
    due_weaker (IsDrained may first) = record { closed = due.closed; free = due.free; reason = IsDrained refl first }

pub paths_join : (drains : Bool) (stage : Stage) (p q r : Point) → Path drains stage p q → Path drains stage q r →
    Path drains stage p r
paths_join drains stage p q _ first Stays = first
paths_join drains stage p q _ first (Goes s r second move) = Goes s r (paths_join drains stage p q s first second) move
