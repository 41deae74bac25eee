-- What the items of a call say of the call.
use Rattle.std.proofs.Common.{◌≡◌, Bool, true, false, cond, None, refl, sym, ◌∙◌, ap}
use Rattle.std.specs.Prelude.{is_some}
use Rattle.list_laws.proofs.Options.{none_of}
use Rattle.rma_types.specs.declared.accesses.Step.TheVariants.{Arrive, One}
use Rattle.rma_types.specs.declared.calls.Call.{Call}
use Rattle.board_rules.specs.Entries.{collective_in, fence_or_none, first_step}
use Rattle.rma_types.specs.declared.actions.Action.{Action}
use Rattle.rma_types.specs.declared.actions.Action.TheVariants.{Creates, Frees, Attaches, Detaches, Synchronises, Meets}
use Rattle.rma_types.specs.declared.actions.Action.TheVariants.{Moves, EndsRequest}
use Rattle.rma_types.specs.declared.actions.Synchronisation.{Synchronisation}
use Rattle.rma_types.specs.declared.actions.Synchronisation.TheVariants.{Fences, Posts, Starts, Completes, Waits, Locks}
use Rattle.rma_types.specs.declared.actions.Synchronisation.TheVariants.{Unlocks, Flushes, Syncs}
use Rattle.rma_types.specs.declared.actions.Target.{Target}
use Rattle.rma_types.specs.declared.actions.Transfer.{Transfer}
use Rattle.rma_types.specs.declared.actions.Target.TheVariants.{Own, Null, Named}
use Rattle.rma_types.specs.Actions.{action_of, transfer_in, transfer_of}
use Rattle.rank_laws.proofs.Moves.{step_by}
use Rattle.rank_rules.specs.Courses.{Course, OneNull, OneIssue, LookUpAndIssue, OneFlush, OneRequest, ArriveAndLeave}
use Rattle.rank_rules.specs.Courses.{EntryOrTested, OneEntry, course_of, course_of_action, course_of_transfer}
use Rattle.rank_rules.specs.Courses.{course_of_synchronisation, is_dynamic}
use Rattle.rank_rules.specs.Windows.{RankWindows}

-- ---- the first step

transfer_steps_once : (known : RankWindows) (t : Transfer) (target : Target) (dynamic : Bool) →
    step_by (cond dynamic LookUpAndIssue OneIssue) ≡ One
transfer_steps_once known t target true = refl
transfer_steps_once known t target false = refl

first_step_of_transfer : (known : RankWindows) (t : Transfer) (target : Target) → t.target ≡ target →
    step_by (course_of_transfer known t) ≡ One
first_step_of_transfer known t Own e = rw e refl
first_step_of_transfer known t Null e = rw e refl
first_step_of_transfer known t (Named rank) e = rw e (transfer_steps_once known t (Named rank) (is_dynamic known t))

wait_steps_once : (tests : Bool) → step_by (cond tests EntryOrTested OneEntry) ≡ One
wait_steps_once true = refl
wait_steps_once false = refl

first_step_of_synchronisation : (s : Synchronisation) → step_by (course_of_synchronisation s) ≡ cond
    (is_some (fence_or_none s)) Arrive One
first_step_of_synchronisation (Fences asserts) = refl
first_step_of_synchronisation (Posts group asserts) = refl
first_step_of_synchronisation (Starts group asserts) = refl
first_step_of_synchronisation Completes = refl
first_step_of_synchronisation (Waits tests) = wait_steps_once tests
first_step_of_synchronisation (Locks kind target asserts) = refl
first_step_of_synchronisation (Unlocks target) = refl
first_step_of_synchronisation (Flushes target local) = refl
first_step_of_synchronisation Syncs = refl

first_step_of_action : (known : RankWindows) (action : Action) →
    step_by (course_of_action known action) ≡ cond (is_some (collective_in action)) Arrive One
first_step_of_action known (Creates creation) = refl
first_step_of_action known (Frees win) = refl
first_step_of_action known (Attaches win base bytes) = refl
first_step_of_action known (Detaches win base) = refl
first_step_of_action known (Synchronises win s) = first_step_of_synchronisation s
first_step_of_action known Meets = refl
first_step_of_action known (Moves t) = first_step_of_transfer known t t.target refl
first_step_of_action known (EndsRequest req) = refl

-- the first entry of a call has the step that its items say
pub first_step_is : (known : RankWindows) (call : Call) → step_by (course_of known call) ≡ first_step call
first_step_is known call = first_step_of_action known (action_of call)

-- ---- calls that move data

-- a course that only a call which moves data has
abbrev pub is_transfers : Course → Bool
is_transfers OneNull = true
is_transfers OneIssue = true
is_transfers LookUpAndIssue = true
is_transfers OneFlush = false
is_transfers OneRequest = false
is_transfers ArriveAndLeave = false
is_transfers EntryOrTested = false
is_transfers OneEntry = false

dynamic_is_transfers : (dynamic : Bool) → is_transfers (cond dynamic LookUpAndIssue OneIssue) ≡ true
dynamic_is_transfers true = refl
dynamic_is_transfers false = refl

transfer_is_transfers : (known : RankWindows) (t : Transfer) (target : Target) → t.target ≡ target →
    is_transfers (course_of_transfer known t) ≡ true
transfer_is_transfers known t Own e = rw e refl
transfer_is_transfers known t Null e = rw e refl
transfer_is_transfers known t (Named rank) e = rw e (dynamic_is_transfers (is_dynamic known t))

wait_is_no_transfer : (tests : Bool) → is_transfers (cond tests EntryOrTested OneEntry) ≡ false
wait_is_no_transfer true = refl
wait_is_no_transfer false = refl

synchronisation_is_no_transfer : (s : Synchronisation) → is_transfers (course_of_synchronisation s) ≡ false
synchronisation_is_no_transfer (Fences asserts) = refl
synchronisation_is_no_transfer (Posts group asserts) = refl
synchronisation_is_no_transfer (Starts group asserts) = refl
synchronisation_is_no_transfer Completes = refl
synchronisation_is_no_transfer (Waits tests) = wait_is_no_transfer tests
synchronisation_is_no_transfer (Locks kind target asserts) = refl
synchronisation_is_no_transfer (Unlocks target) = refl
synchronisation_is_no_transfer (Flushes target local) = refl
synchronisation_is_no_transfer Syncs = refl

action_is_transfers : (known : RankWindows) (action : Action) →
    is_transfers (course_of_action known action) ≡ is_some (transfer_in action)
action_is_transfers known (Creates creation) = refl
action_is_transfers known (Frees win) = refl
action_is_transfers known (Attaches win base bytes) = refl
action_is_transfers known (Detaches win base) = refl
action_is_transfers known (Synchronises win s) = synchronisation_is_no_transfer s
action_is_transfers known Meets = refl
action_is_transfers known (Moves t) = transfer_is_transfers known t t.target refl
action_is_transfers known (EndsRequest req) = refl

-- the items of a call tell whether it moves data
pub course_tells_transfer : (known : RankWindows) (call : Call) →
    is_transfers (course_of known call) ≡ is_some (transfer_of call)
course_tells_transfer known call = action_is_transfers known (action_of call)

-- a call whose items are others moves none
pub moves_nothing : (known : RankWindows) (call : Call) (course : Course) → course_of known call ≡ course →
    is_transfers course ≡ false → transfer_of call ≡ None
moves_nothing known call course e other =
    none_of (transfer_of call) (sym (course_tells_transfer known call) ∙ ap is_transfers e ∙ other)
