-- Which items an accepted call has in its rank's log: this project's record of a run.
use Rattle.std.specs.Prelude.{Bool, true, false, Option, Some, None, if◌then◌else◌}
use Rattle.std.specs.Option.{option_map_or}
use Rattle.rma_types.specs.declared.accesses.Access.{Access}
use Rattle.rma_types.specs.declared.calls.Call.{Call}
use Rattle.rma_types.specs.declared.calls.Flavor.TheVariants.{Dynamic}
use Rattle.rma_types.specs.declared.actions.Action.{Action}
use Rattle.rma_types.specs.declared.actions.Action.TheVariants.{Creates, Frees, Attaches, Detaches, Synchronises, Meets}
use Rattle.rma_types.specs.declared.actions.Action.TheVariants.{Moves, EndsRequest}
use Rattle.rma_types.specs.declared.actions.Synchronisation.{Synchronisation}
use Rattle.rma_types.specs.declared.actions.Synchronisation.TheVariants.{Fences, Posts, Starts, Completes, Waits, Locks}
use Rattle.rma_types.specs.declared.actions.Synchronisation.TheVariants.{Unlocks, Flushes, Syncs}
use Rattle.rma_types.specs.declared.actions.Target.{Target}
use Rattle.rma_types.specs.declared.actions.Transfer.{Transfer}
use Rattle.rma_types.specs.declared.actions.Target.TheVariants.{Own, Null, Named}
use Rattle.rma_types.specs.Actions.{action_of, transfer_of}
use Rattle.call_rules.specs.Transfers.{rank_reached, bytes_of}
use Rattle.rank_rules.specs.Windows.{Window, RankWindows, window_of_name, is_same_flavor}
use Rattle.rank_rules.specs.WindowTests.{address_of}

-- the items of an accepted call
pub data Course : Type 0 where
  -- one Null: the target is MPI_PROC_NULL
  OneNull : Course
  -- one Issue: a transfer
  OneIssue : Course
  -- an entry of step One and then an Issue: an RMA call on a dynamic window
  LookUpAndIssue : Course
  -- one Flush
  OneFlush : Course
  -- one Request
  OneRequest : Course
  -- an entry of step Arrive, and then one of step Leave: a collective call
  ArriveAndLeave : Course
  -- an entry of step One, or a Tested: a testwin
  EntryOrTested : Course
  -- an entry of step One
  OneEntry : Course

abbrev pub is_dynamic : RankWindows → Transfer → Bool
is_dynamic known t =
    option_map_or (λ (window : Window). is_same_flavor window.flavor Dynamic) (window_of_name known t.win) false

abbrev pub course_of_transfer : RankWindows → Transfer → Course
course_of_transfer known t = reaching t.target
  where
    reaching : Target → Course
    reaching Own = OneIssue
    reaching Null = OneNull
    reaching (Named rank) = if is_dynamic known t then LookUpAndIssue else OneIssue

abbrev pub course_of_synchronisation : Synchronisation → Course
course_of_synchronisation (Fences asserts) = ArriveAndLeave
course_of_synchronisation (Posts group asserts) = OneEntry
course_of_synchronisation (Starts group asserts) = OneEntry
course_of_synchronisation Completes = OneEntry
course_of_synchronisation (Waits tests) = if tests then EntryOrTested else OneEntry
course_of_synchronisation (Locks kind target asserts) = OneEntry
course_of_synchronisation (Unlocks target) = OneEntry
course_of_synchronisation (Flushes target local) = OneFlush
course_of_synchronisation Syncs = OneFlush

abbrev pub course_of_action : RankWindows → Action → Course
course_of_action known (Creates creation) = ArriveAndLeave
course_of_action known (Frees win) = ArriveAndLeave
course_of_action known (Attaches win base bytes) = OneEntry
course_of_action known (Detaches win base) = OneEntry
course_of_action known (Synchronises win s) = course_of_synchronisation s
course_of_action known Meets = ArriveAndLeave
course_of_action known (Moves t) = course_of_transfer known t
course_of_action known (EndsRequest req) = OneRequest

abbrev pub course_of : RankWindows → Call → Course
course_of known call = course_of_action known (action_of call)

-- the call has an entry of the board
abbrev pub has_entry : Course → Bool
has_entry OneNull = false
has_entry OneIssue = false
has_entry LookUpAndIssue = true
has_entry OneFlush = false
has_entry OneRequest = false
has_entry ArriveAndLeave = true
has_entry EntryOrTested = true
has_entry OneEntry = true

-- the access of a transfer on its live window: MPI 3.1, sections 11.2 and 11.3
abbrev pub access_on : RankWindows → Transfer → Window → Access
access_on known t window = record {
  window = window.number;
  target = rank_reached known.rank t.target;
  lo = address_of known window t;
  len = bytes_of t;
  kind = t.kind;
}

-- the access of a call that moves data, on its live window
abbrev pub access_of : RankWindows → Call → Option Access
access_of known call = option_map_or of_transfer (transfer_of call) None
  where
    of_transfer : Transfer → Option Access
    of_transfer t = option_map_or (λ window. Some (access_on known t window)) (window_of_name known t.win) None
