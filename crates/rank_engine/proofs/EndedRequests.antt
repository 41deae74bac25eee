-- A call that ends a request.
use Rattle.std.proofs.Common.{◌≡◌, ℕ, Bool, true, false, cond, not, [], Some, None, refl, ap, subst}
use Rattle.std.specs.Prelude.{◌<◌}
use Rattle.std.proofs.lemmas.Bool.{not-false}
use Rattle.rma_types.specs.declared.calls.Call.{Call}
use Rattle.rma_types.specs.declared.classes.Class.TheVariants.{Request}
use Rattle.rma_types.specs.declared.actions.Action.{Action}
use Rattle.rma_types.specs.declared.actions.Action.TheVariants.{Creates, Frees, Attaches, Detaches, Synchronises, Meets}
use Rattle.rma_types.specs.declared.actions.Action.TheVariants.{Moves, EndsRequest}
use Rattle.rma_types.specs.declared.actions.Synchronisation.{Synchronisation}
use Rattle.rma_types.specs.declared.actions.Synchronisation.TheVariants.{Fences, Posts, Starts, Completes, Waits, Locks}
use Rattle.rma_types.specs.declared.actions.Synchronisation.TheVariants.{Unlocks, Flushes, Syncs}
use Rattle.rma_types.specs.declared.actions.Target.{Target}
use Rattle.rma_types.specs.declared.actions.Transfer.{Transfer}
use Rattle.rma_types.specs.declared.actions.Target.TheVariants.{Own, Null, Named}
use Rattle.rma_types.specs.Actions.{action_of}
use Rattle.call_rules.specs.WellFormed.{IsWrittenAction, IsWrittenCall}
use Rattle.rank_rules.specs.Courses.{OneIssue, LookUpAndIssue, OneRequest, EntryOrTested, OneEntry, course_of}
use Rattle.rank_rules.specs.Courses.{course_of_action, course_of_synchronisation, course_of_transfer, is_dynamic}
use Rattle.rank_rules.specs.Knowledge.{Knowledge, known_after_call, own_class}
use Rattle.rank_rules.specs.Requests.{is_live_request, request_class, without_request}
use Rattle.rank_rules.specs.Windows.{RankWindows}
use Rattle.rank_rules.proofs.ClassLaws.{first_passed}
use Rattle.step_runs.specs.DataSteps.{no_shapes}
use Rattle.rank_engine.proofs.Passed.{requests_allow}
use Rattle.rank_engine.specs.Moves.{request_ended}

pub ends_it : (a : Action) (req : ℕ) → request_ended a ≡ Some req → a ≡ EndsRequest req
ends_it (Creates creation) req e = absurd (cc e)
ends_it (Frees win) req e = absurd (cc e)
ends_it (Attaches win base bytes) req e = absurd (cc e)
ends_it (Detaches win base) req e = absurd (cc e)
ends_it (Synchronises win s) req e = absurd (cc e)
ends_it Meets req e = absurd (cc e)
ends_it (Moves t) req e = absurd (cc e)
ends_it (EndsRequest name) req e = let same : name ≡ req = cc e in ap EndsRequest same

-- what the rank knows after it
pub ended_knows : (known : Knowledge) (number : ℕ) (call : Call) (req : ℕ) → request_ended (action_of call) ≡ Some req →
    known_after_call no_shapes known number call ≡
    record known { requests = without_request known.requests req }
ended_knows known number call req e = let is : action_of call ≡ EndsRequest req = ends_it (action_of call) req e in rw
    is refl

no_wait : (tests : Bool) → cond tests EntryOrTested OneEntry ≡ OneRequest → ⊥
no_wait true e = cc e
no_wait false e = cc e

no_issue : (known : RankWindows) (t : Transfer) (target : Target) → t.target ≡ target →
    course_of_transfer known t ≡ OneRequest → ⊥
no_issue known t Own is e = let h = subst
    (λ (x : Target). course_of_transfer known (record t { target = x }) ≡ OneRequest) is e in cc h
no_issue known t Null is e = let h = subst
    (λ (x : Target). course_of_transfer known (record t { target = x }) ≡ OneRequest) is e in cc h
no_issue known t (Named rank) is e =
    by_window (is_dynamic known t) (subst
    (λ (x : Target). course_of_transfer known (record t { target = x }) ≡ OneRequest) is e)
  where
    by_window : (b : Bool) → cond b LookUpAndIssue OneIssue ≡ OneRequest → ⊥
    by_window true h = cc h
    by_window false h = cc h

no_other : (known : RankWindows) (s : Synchronisation) → course_of_synchronisation s ≡ OneRequest → ⊥
no_other known (Fences asserts) e = cc e
no_other known (Posts group asserts) e = cc e
no_other known (Starts group asserts) e = cc e
no_other known Completes e = cc e
no_other known (Waits tests) e = no_wait tests e
no_other known (Locks kind target asserts) e = cc e
no_other known (Unlocks target) e = cc e
no_other known (Flushes target local) e = cc e
no_other known Syncs e = cc e

-- a call with this course ends a request
request_is : (known : RankWindows) (a : Action) → course_of_action known a ≡ OneRequest → request_ended a ≡ None → ⊥
request_is known (Creates creation) e none = cc e
request_is known (Frees win) e none = cc e
request_is known (Attaches win base bytes) e none = cc e
request_is known (Detaches win base) e none = cc e
request_is known (Synchronises win s) e none = no_other known s e
request_is known Meets e none = cc e
request_is known (Moves t) e none = no_issue known t t.target refl e
request_is known (EndsRequest req) e none = cc none

pub ends_some : (known : RankWindows) (call : Call) → course_of known call ≡ OneRequest →
    request_ended (action_of call) ≡ None → ⊥
ends_some known call e none = request_is known (action_of call) e none

-- which is live, and has a name below 64
pub ended_live : (known : Knowledge) (call : Call) (req : ℕ) → own_class known call ≡ None →
    request_ended (action_of call) ≡ Some req → is_live_request known.requests req ≡ true
ended_live known call req own e =
    let is : action_of call ≡ EndsRequest req = ends_it (action_of call) req e in
    let passed = subst (λ a. request_class known.requests a ≡ None) is (requests_allow known call own) in
    not-false (is_live_request known.requests req)
    (first_passed (not (is_live_request known.requests req)) Request [] passed).0

pub ended_small : (call : Call) (req : ℕ) → IsWrittenCall call → request_ended (action_of call) ≡ Some req → req < 64
ended_small call req written e =
    subst IsWrittenAction (ends_it (action_of call) req e) written
