-- A step of a rank without the board: a draw, a refusal by the rank, an item of its own, or the delivery of an access.
-- This project's profile of MPI 3.1, section 11.7.
use Rattle.std.specs.Prelude.{ℕ, ◌/◌, ◌%◌, Bool, true, ◌==◌, if◌then◌else◌, List, [], ◌∷◌, ◌++◌, length, slice_get}
use Rattle.std.specs.Prelude.{remove, Option, Some, None}
use Rattle.std.specs.Option.{option_map_or}
use Rattle.rma_types.specs.declared.accesses.Access.{Access}
use Rattle.rma_types.specs.declared.calls.Call.{Call}
use Rattle.rma_types.specs.declared.classes.Class.{Class}
use Rattle.rma_types.specs.declared.schedules.Delay.{Delay}
use Rattle.rma_types.specs.declared.schedules.Delay.TheVariants.{None as NoDelay, End as EndDelay}
use Rattle.rma_types.specs.declared.schedules.Delay.TheVariants.{Seeded as SeededDelay}
use Rattle.rma_types.specs.declared.scripts.Part.{Part}
use Rattle.rma_record.specs.declared.items.Item.{Item}
use Rattle.rma_record.specs.declared.items.Item.TheVariants.{Issue, Null, Flush, Request, Refused, Ended}
use Rattle.call_rules.specs.declared.cells.Cell.{Cell}
use Rattle.rma_types.specs.declared.actions.Transfer.{Transfer}
use Rattle.rma_types.specs.Actions.{transfer_of}
use Rattle.call_rules.specs.Pieces.{pieces}
use Rattle.call_rules.specs.Touches.{touch_each}
use Rattle.lawful_runs.specs.Accesses.{transfer_at}
use Rattle.lawful_runs.specs.Stages.{Stage, calls_at}
use Rattle.lawful_runs.specs.TouchLaw.{is_local}
use Rattle.rank_rules.specs.Courses.{Course, OneNull, OneIssue, LookUpAndIssue, OneFlush, OneRequest, ArriveAndLeave}
use Rattle.rank_rules.specs.Courses.{EntryOrTested, OneEntry, course_of, access_of}
use Rattle.rank_rules.specs.Knowledge.{own_class}
use Rattle.rank_rules.specs.Pending.{way}
use Rattle.rank_rules.specs.declared.pending.PendingAccess.{PendingAccess}
pub use Rattle.rank_rules.specs.Pending.{made_pending}
use Rattle.step_runs.specs.Agents.{Agent, keep_item, end_call, next_call, must_draw, awaited_by, has_pending}
use Rattle.step_runs.specs.Generator.{next_state, drawn_from}

-- ---- deliveries

-- the rank and the cells after a step
pub record OnMemory : Type 0 where
  pub agent : Agent
  pub cells : List Cell

-- all touches of an access are made, in the order of its elements
abbrev pub with_touches : Stage → Agent → List Cell → PendingAccess → Transfer → OnMemory
with_touches stage agent cells one t =
    let touched = touch_each t one.index 0 (pieces stage.layout one.access t.dtype) cells in
    record { agent = record agent { log = agent.log ++ touched.items }; cells = touched.cells }

-- the access is pending no more, and all its touches are made
abbrev pub with_delivery : Stage → Agent → List Cell → ℕ → PendingAccess → OnMemory
with_delivery stage agent cells at one =
    let rest = record agent { pending = remove agent.pending at } in
    option_map_or (with_touches stage rest cells one) (transfer_at (calls_at stage agent.rank) one.number)
    (record { agent = rest; cells = cells })

-- the pending access at a place is delivered
abbrev pub deliver : Stage → Agent → List Cell → ℕ → OnMemory
deliver stage agent cells at =
    option_map_or (with_delivery stage agent cells at) (slice_get agent.pending at)
    (record { agent = agent; cells = cells })

-- ---- what a rank does before a delivery

-- the rank after what it does by itself, and the place of the pending access that is then delivered, if there is one
pub record Move : Type 0 where
  pub agent : Agent
  pub delivers : Option ℕ

-- nothing but the delivery of a pending access
abbrev pub just_delivers : Agent → ℕ → Move
just_delivers agent at = record { agent = agent; delivers = Some at }

abbrev pub without_delivery : Agent → Move
without_delivery agent = record { agent = agent; delivers = None }

-- an item of a call that makes no window: what it teaches does not depend on shapes
abbrev pub no_shapes : ℕ → List Part
no_shapes window = []

-- the rank keeps an item that ends its call
abbrev pub with_item : Stage → Agent → Item → Agent
with_item stage agent item = end_call (keep_item no_shapes stage agent item)

-- the access is touched in the step of its Issue: a load and a store always, others where nothing is delayed
abbrev pub is_at_once : Delay → Access → Bool
is_at_once NoDelay access = true
is_at_once EndDelay access = is_local access.kind
is_at_once SeededDelay access = is_local access.kind

-- the Issue of an access, which is pending from then on
abbrev pub with_issue : Stage → Agent → Access → Transfer → Agent
with_issue stage agent access t =
    let one : PendingAccess = record {
      index = length agent.log;
      number = agent.at;
      access = access;
      fetches = t.fetches;
    } in
    let next = with_item stage agent (Issue agent.at access) in
    record next { pending = next.pending ++ made_pending one }

-- the Issue, and the delivery of the access where it is touched at once
abbrev pub issue_of : Stage → Agent → Transfer → Access → Move
issue_of stage agent t access = record {
  agent = with_issue stage agent access t;
  delivers = if is_at_once stage.delay access then Some (length agent.pending) else None;
}

abbrev pub issue : Stage → Agent → Call → Move
issue stage agent call = option_map_or (λ t. option_map_or (issue_of stage agent t) (access_of agent.known.windows call)
    (without_delivery agent))
    (transfer_of call) (without_delivery agent)

-- a draw for the call that begins: an odd one delivers the pending access that it names, an even one none
abbrev pub draw : Agent → Move
draw agent =
    let state = next_state agent.draws in
    let number = drawn_from state in
    record {
      agent = record agent { drawn = true; draws = state };
      delivers = if number % 2 == 1 then Some (way agent.pending (number / 2 % length agent.pending)) else None;
    }

-- the item of a call that has no entry, by the items that the call has
abbrev pub first_item : Course → Stage → Agent → Call → Move
first_item OneNull stage agent call = without_delivery (with_item stage agent (Null agent.at))
first_item OneIssue stage agent call = issue stage agent call
first_item LookUpAndIssue stage agent call = without_delivery agent
first_item OneFlush stage agent call = without_delivery (with_item stage agent (Flush agent.at))
first_item OneRequest stage agent call = without_delivery (with_item stage agent (Request agent.at))
first_item ArriveAndLeave stage agent call = without_delivery agent
first_item EntryOrTested stage agent call = without_delivery agent
first_item OneEntry stage agent call = without_delivery agent

-- an access that the call must wait for is delivered; or else the call has its item
abbrev pub wait_or_go_on : Option ℕ → Stage → Agent → Call → Move
wait_or_go_on (Some at) stage agent call = just_delivers agent at
wait_or_go_on None stage agent call = first_item (course_of agent.known.windows call) stage agent call

-- the rank refuses the call by its own tests; or else the call waits or goes on
abbrev pub judge : Option Class → Stage → Agent → Call → Move
judge (Some class) stage agent call = without_delivery (with_item stage agent (Refused agent.at class 0))
judge None stage agent call = wait_or_go_on (awaited_by agent call) stage agent call

-- a call begins with a draw, where one must be made
abbrev pub begin : Stage → Agent → Call → Move
begin stage agent call =
    if must_draw stage agent then draw agent else judge (own_class agent.known call) stage agent call

-- after the look-up of an RMA call comes its Issue
abbrev pub go_on : Stage → Agent → Call → Move
go_on stage agent call = if agent.entered then issue stage agent call else begin stage agent call

-- all calls have their items: a pending access is delivered, or the rank ends
abbrev pub end : Stage → Agent → Move
end stage agent =
    if has_pending agent then just_delivers agent 0
    else (if agent.ended then without_delivery agent
    else without_delivery (record (keep_item no_shapes stage agent Ended) { ended = true }))

-- what the rank does, where its step tries no entry
abbrev pub move_of : Stage → Agent → Move
move_of stage agent = option_map_or (go_on stage agent) (next_call stage agent) (end stage agent)

-- ---- steps

abbrev pub deliver_if : Stage → List Cell → Move → OnMemory
deliver_if stage cells move =
    option_map_or (deliver stage move.agent cells) move.delivers (record { agent = move.agent; cells = cells })

-- a step of a rank that tries no entry
abbrev pub data_step : Stage → Agent → List Cell → OnMemory
data_step stage agent cells = deliver_if stage cells (move_of stage agent)
