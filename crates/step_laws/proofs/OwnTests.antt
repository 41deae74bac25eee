-- What follows where a rank does not refuse a call by its own tests.
use Rattle.std.proofs.Common.{◌≡◌, ℕ, ◌<◌, Bool, true, false, cond, [], ◌∷◌, Option, Some, None, refl, sym, ◌∙◌}
use Rattle.std.proofs.Common.{subst, arith}
use Rattle.std.specs.Option.{option_map_or}
use Rattle.rma_types.specs.declared.calls.Call.{Call}
use Rattle.rma_types.specs.declared.classes.Class.TheVariants.{Win}
use Rattle.rma_types.specs.declared.actions.Action.{Action}
use Rattle.rma_types.specs.declared.actions.Action.TheVariants.{Creates, Frees, Attaches, Detaches, Synchronises, Meets}
use Rattle.rma_types.specs.declared.actions.Action.TheVariants.{Moves, EndsRequest}
use Rattle.rma_types.specs.declared.actions.Synchronisation.{Synchronisation}
use Rattle.rma_types.specs.declared.actions.Synchronisation.TheVariants.{Fences, Posts, Starts, Completes, Waits, Locks}
use Rattle.rma_types.specs.declared.actions.Synchronisation.TheVariants.{Unlocks, Flushes, Syncs}
use Rattle.rma_types.specs.declared.actions.Target.{Target}
use Rattle.rma_types.specs.declared.actions.Transfer.{Transfer}
use Rattle.rma_types.specs.declared.actions.Target.TheVariants.{Own, Null, Named}
use Rattle.rma_types.specs.Actions.{action_of, transfer_in, transfer_of}
use Rattle.rma_types.proofs.ActionLaws.{moves_it}
use Rattle.rank_rules.specs.Classes.{first_class, least_class}
use Rattle.rank_rules.specs.Courses.{Course, OneNull, OneIssue, LookUpAndIssue, OneFlush, OneRequest, ArriveAndLeave}
use Rattle.rank_rules.specs.Courses.{EntryOrTested, OneEntry, is_dynamic, course_of_transfer, course_of_synchronisation}
use Rattle.rank_rules.specs.Courses.{course_of_action, course_of, access_on, access_of}
use Rattle.rank_rules.specs.EpochTests.{epoch_class}
use Rattle.rank_rules.specs.Knowledge.{Knowledge, own_class}
use Rattle.rank_rules.specs.Requests.{request_class}
use Rattle.rank_rules.specs.Windows.{Window, RankWindows, window_of_name}
use Rattle.rank_rules.specs.WindowTests.{place_tests, window_tests, window_class}
use Rattle.rank_rules.proofs.ClassLaws.{least_none}

-- ---- calls that move data

-- a call that has an Issue, directly or after a look-up, moves data
abbrev pub HasIssue : Course → Type 0
HasIssue OneNull = ⊥
HasIssue OneIssue = Unit {0}
HasIssue LookUpAndIssue = Unit {0}
HasIssue OneFlush = ⊥
HasIssue OneRequest = ⊥
HasIssue ArriveAndLeave = ⊥
HasIssue EntryOrTested = ⊥
HasIssue OneEntry = ⊥

no_issue_of_wait : (tests : Bool) → HasIssue (cond tests EntryOrTested OneEntry) → ⊥
no_issue_of_wait true h = h
no_issue_of_wait false h = h

no_issue : (s : Synchronisation) → HasIssue (course_of_synchronisation s) → ⊥
no_issue (Fences asserts) h = h
no_issue (Posts group asserts) h = h
no_issue (Starts group asserts) h = h
no_issue Completes h = h
no_issue (Waits tests) h = no_issue_of_wait tests h
no_issue (Locks kind target asserts) h = h
no_issue (Unlocks target) h = h
no_issue (Flushes target local) h = h
no_issue Syncs h = h

action_with_issue : (known : RankWindows) (a : Action) → HasIssue (course_of_action known a) →
    (t : Transfer) × (transfer_in a ≡ Some t)
action_with_issue known (Creates creation) h = absurd h
action_with_issue known (Frees win) h = absurd h
action_with_issue known (Attaches win base bytes) h = absurd h
action_with_issue known (Detaches win base) h = absurd h
action_with_issue known (Synchronises win s) h = absurd (no_issue s h)
action_with_issue known Meets h = absurd h
action_with_issue known (Moves t) h = (t, refl)
action_with_issue known (EndsRequest req) h = absurd h

pub transfer_with_issue : (known : RankWindows) (call : Call) → HasIssue (course_of known call) →
    (t : Transfer) × (transfer_of call ≡ Some t)
transfer_with_issue known call h = action_with_issue known (action_of call) h

-- the access of a transfer on its live window
pub access_is : (known : RankWindows) (call : Call) (t : Transfer) (window : Window) → transfer_of call ≡ Some t →
    window_of_name known t.win ≡ Some window →
    access_of known call ≡ Some (access_on known t window)
access_is known call t window moves live = rw moves (rw live refl)

-- ---- classes

-- the rank's windows, its epochs and its requests each allow the call
pub windows_allow : (known : Knowledge) (call : Call) → own_class known call ≡ None →
    window_class known.windows (action_of call) ≡ None
windows_allow known call e =
    (least_none (window_class known.windows (action_of call))
    (least_class (epoch_class known.windows.ranks known.epochs (action_of call))
    (request_class known.requests (action_of call))) e).0

-- a transfer that passes is on a live window, and its place is right
pub transfer_passed : (known : RankWindows) (t : Transfer) → window_class known (Moves t) ≡ None →
    (window : Window) × (window_of_name known t.win ≡ Some window) × (first_class (place_tests known window t) ≡ None)
transfer_passed known t e = by_window (window_of_name known t.win) refl e
  where
    by_window : (o : Option Window) → window_of_name known t.win ≡ o →
        first_class (option_map_or (λ (window : Window). place_tests known window t) o ((true, Win) ∷ [])) ≡ None →
        (window : Window) × (window_of_name known t.win ≡ Some window) ×
        (first_class (place_tests known window t) ≡ None)
    by_window None live h = absurd (cc h)
    by_window (Some window) live h = (window, live, h)

-- so it has an access
pub allowed_has_access : (known : Knowledge) (call : Call) (t : Transfer) → transfer_of call ≡ Some t →
    own_class known call ≡ None →
    (window : Window) × (window_of_name known.windows t.win ≡ Some window) ×
    (access_of known.windows call ≡ Some (access_on known.windows t window))
allowed_has_access known call t moves allowed =
    let passed = transfer_passed known.windows t
    (subst (λ a. window_class known.windows a ≡ None) (moves_it call t moves) (windows_allow known call allowed)) in
    (passed.0, passed.1, access_is known.windows call t passed.0 moves passed.1)
