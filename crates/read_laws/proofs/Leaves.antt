-- In a lawful log a Leave is an entry of a collective call.
use Rattle.std.proofs.Common.{◌≡◌, ℕ, zero, suc, inl, inr, Bool, true, false, cond, not, List, [], ◌∷◌, Option, Some}
use Rattle.std.proofs.Common.{None, refl, ap, sym, ◌∙◌, subst}
use Rattle.std.specs.Prelude.{slice_get, IsSomeAnd}
use Rattle.std.specs.List.{AllByRecursion}
use Rattle.std.proofs.lemmas.Option.{some_pair_parts}
use Rattle.list_laws.proofs.Each.{each_append}
use Rattle.list_laws.proofs.Options.{some_and}
use Rattle.rma_types.specs.declared.accesses.Access.{Access}
use Rattle.rma_types.specs.declared.accesses.Step.{Step}
use Rattle.rma_types.specs.declared.accesses.Step.TheVariants.{Arrive, Leave, One}
use Rattle.rma_types.specs.declared.calls.Call.{Call}
use Rattle.rma_types.specs.declared.classes.Class.{Class}
use Rattle.rma_record.specs.declared.items.Item.{Item}
use Rattle.rma_record.specs.declared.items.Item.TheVariants.{Issue, Null, Touch, Flush, Request, Entry, Tested, Refused}
use Rattle.rma_record.specs.declared.items.Item.TheVariants.{Ended}
use Rattle.lawful_runs.specs.CallItems.{other_items, AreItemsOfCourse, AreItemsBy, AreItemsOf, AreFinished, StandsAt}
use Rattle.lawful_runs.specs.CallItems.{EndsOrStands, HasItemsOfCalls}
use Rattle.lawful_runs.specs.Items.{is_touch, number_in}
use Rattle.lawful_runs.specs.Stages.{RankOfRun, calls_here, known_at}
use Rattle.order_rules.specs.CallSteps.{step_by}
use Rattle.rank_rules.specs.Courses.{Course, OneNull, OneIssue, LookUpAndIssue, OneFlush, OneRequest, ArriveAndLeave}
use Rattle.rank_rules.specs.Courses.{EntryOrTested, OneEntry, course_of, access_of}
use Rattle.rank_rules.specs.Knowledge.{Knowledge, own_class}
use Rattle.rank_rules.specs.Windows.{RankWindows}
use Rattle.read_laws.proofs.Firsts.{begins_with_step, is_initial}

-- where the item is a Leave, its call is a collective one
abbrev pub LeavesCollective : List Call → Item → Type 0
LeavesCollective calls item = (number place : ℕ) → item ≡ Entry number place Leave → (call : Call) →
    slice_get calls number ≡ Some call → (known : RankWindows) × (course_of known call ≡ ArriveAndLeave)

single : (calls : List Call) (items : List Item) (x : Item) → items ≡ x ∷ [] → LeavesCollective calls x →
    AllByRecursion (LeavesCollective calls) items
single calls items x is leaves = subst (AllByRecursion (LeavesCollective calls)) (sym is) (leaves, tt)

issue_leaves : (calls : List Call) (o : Option Access) (number : ℕ) (item : Item) →
    IsSomeAnd o (λ access. item ≡ Issue number access) →
    LeavesCollective calls item
issue_leaves calls o number item h = let one = some_and o h in λ n place is. absurd (cc (one.2, is))

course_leaves : (calls : List Call) (course : Course) (known : Knowledge) (number : ℕ) (call : Call)
    (items : List Item) →
    slice_get calls number ≡ Some call → course_of known.windows call ≡ course →
    AreItemsOfCourse course known number call items → AllByRecursion (LeavesCollective calls) items
course_leaves calls OneNull known number call items of is h = single calls items (Null number) h
    (λ n place e. absurd (cc e))
course_leaves calls OneIssue known number call items of is (item, issue, e) =
    single calls items item e (issue_leaves calls (access_of known.windows call) number item issue)
course_leaves calls LookUpAndIssue known number call items of is (place, item, issue, e) =
    subst (AllByRecursion (LeavesCollective calls)) (sym e)
    (λ n p same. absurd (cc same), (issue_leaves calls (access_of known.windows call) number item issue, tt))
course_leaves calls OneFlush known number call items of is h = single calls items (Flush number) h
    (λ n place e. absurd (cc e))
course_leaves calls OneRequest known number call items of is h = single calls items (Request number) h
    (λ n place e. absurd (cc e))
course_leaves calls ArriveAndLeave known number call items of is (arrived, left, e) =
    subst (AllByRecursion (LeavesCollective calls)) (sym e) (
      λ n p same. absurd (cc same),
      (
        λ n p same other found.
            let at : number ≡ n = cc same in
            let call_is : call ≡ other = cc (sym of ∙ ap (slice_get calls) at ∙ found) in
            (known.windows, ap (course_of known.windows) (sym call_is) ∙ is),
        tt,
      ),
    )
course_leaves calls EntryOrTested known number call items of is (inl entry) =
    single calls items (Entry number entry.0 One) entry.1 (λ n place e. absurd (cc e))
course_leaves calls EntryOrTested known number call items of is (inr tested) =
    single calls items (Tested number tested.0) tested.1 (λ n place e. absurd (cc e))
course_leaves calls OneEntry known number call items of is (place, e) =
    single calls items (Entry number place One) e (λ n p same. absurd (cc same))

class_leaves : (calls : List Call) (o : Option Class) (known : Knowledge) (number : ℕ) (call : Call)
    (items : List Item) →
    slice_get calls number ≡ Some call → AreItemsBy o known number call items →
    AllByRecursion (LeavesCollective calls) items
class_leaves calls (Some class) known number call items of h = single calls items (Refused number class 0) h
    (λ n place e. absurd (cc e))
class_leaves calls None known number call items of (inl refused) =
    single calls items (Refused number refused.1 (suc refused.2)) refused.3 (λ n place e. absurd (cc e))
class_leaves calls None known number call items of (inr accepted) =
    course_leaves calls (course_of known.windows call) known number call items of refl accepted

call_leaves : (here : RankOfRun) (before : List Item) (number : ℕ) (items : List Item) →
    AreItemsOf here before number items →
    AllByRecursion (LeavesCollective (calls_here here)) items
call_leaves here before number items h =
    let call = some_and (slice_get (calls_here here) number) h in
    class_leaves (calls_here here) (own_class (known_at here before) call.0)
    (known_at here before) number call.0 items call.1 call.2

finished_leaves : (here : RankOfRun) (number : ℕ) (items : List Item) → AreFinished here number items →
    AllByRecursion (LeavesCollective (calls_here here)) items
finished_leaves here zero items h = subst (AllByRecursion (LeavesCollective (calls_here here))) (sym h) tt
finished_leaves here (suc number) items (before, last, is, earlier, of) =
    subst (AllByRecursion (LeavesCollective (calls_here here))) (sym is)
    (each_append (LeavesCollective (calls_here here)) before last (finished_leaves here number before earlier)
    (call_leaves here before number last of))

standing_leaves : (here : RankOfRun) (before : List Item) (number : ℕ) (call : Call) (rest : List Item) →
    StandsAt here before number call rest → AllByRecursion (LeavesCollective (calls_here here)) rest
standing_leaves here before number call rest (own, inl none) =
    subst (AllByRecursion (LeavesCollective (calls_here here))) (sym none.0) tt
standing_leaves here before number call rest (own, inr arrived) =
    single (calls_here here) rest (Entry number arrived.0 Arrive) arrived.1 (λ n place e. absurd (cc e))

ending_leaves : (here : RankOfRun) (before : List Item) (number : ℕ) (rest : List Item) →
    EndsOrStands here before number rest →
    AllByRecursion (LeavesCollective (calls_here here)) rest
ending_leaves here before number rest (inl ended) = single (calls_here here) rest Ended ended.1
    (λ n place e. absurd (cc e))
ending_leaves here before number rest (inr stands) =
    let call = some_and (slice_get (calls_here here) number) stands in
    standing_leaves here before number call.0 rest call.2

-- of the items of a log without its touches, and so of all
pub with_touches : (P : Item → Type 0) → ((x : Item) → is_touch x ≡ true → P x) → (log : List Item) →
    AllByRecursion P (other_items log) →
    AllByRecursion P log
with_touches P touch [] all = tt
with_touches P touch (x ∷ log) all = by_test (is_touch x) refl (λ rest. with_touches P touch log rest) all
  where
    by_test : (b : Bool) → is_touch x ≡ b → (AllByRecursion P (other_items log) → AllByRecursion P log) →
        AllByRecursion P (cond (not b) (x ∷ other_items log) (other_items log)) → AllByRecursion P (x ∷ log)
    by_test true is rest all = (touch x is, rest all)
    by_test false is rest all = (all.0, rest all.1)

touch_leaves : (calls : List Call) (x : Item) → is_touch x ≡ true → LeavesCollective calls x
touch_leaves calls x touch number place is = absurd (cc (touch, ap is_touch is))

pub leaves_are : (here : RankOfRun) (log : List Item) → HasItemsOfCalls here (other_items log) →
    AllByRecursion (LeavesCollective (calls_here here)) log
leaves_are here log (number, before, rest, is, finished, end) =
    with_touches (LeavesCollective (calls_here here)) (touch_leaves (calls_here here)) log
    (subst (AllByRecursion (LeavesCollective (calls_here here))) (sym is)
    (each_append (LeavesCollective (calls_here here)) before rest (finished_leaves here number before finished)
    (ending_leaves here before number rest end)))

-- ---- steps

-- a step of a call that is no collective one is initial
pub step_begins : (calls : List Call) (item : Item) (number : ℕ) (step : Step) (call : Call) →
    step_by item ≡ Some (number, step) →
    LeavesCollective calls item → slice_get calls number ≡ Some call →
    ((known : RankWindows) → course_of known call ≡ ArriveAndLeave → ⊥) → begins_with_step step ≡ true
step_begins calls (Issue number' access) number step call e leaves of apart = absurd (cc e)
step_begins calls (Null number') number step call e leaves of apart = absurd (cc e)
step_begins calls (Touch issue element cell place bits) number step call e leaves of apart = absurd (cc e)
step_begins calls (Flush number') number step call e leaves of apart =
    sym (ap begins_with_step (some_pair_parts number' number One step e).1)
step_begins calls (Request number') number step call e leaves of apart =
    sym (ap begins_with_step (some_pair_parts number' number One step e).1)
step_begins calls (Entry number' place Arrive) number step call e leaves of apart =
    sym (ap begins_with_step (some_pair_parts number' number Arrive step e).1)
step_begins calls (Entry number' place Leave) number step call e leaves of apart =
    let same = (some_pair_parts number' number Leave step e).0 in
    let course = leaves number' place refl call (ap (slice_get calls) same ∙ of) in absurd (apart course.0 course.1)
step_begins calls (Entry number' place One) number step call e leaves of apart =
    sym (ap begins_with_step (some_pair_parts number' number One step e).1)
step_begins calls (Tested number' seen) number step call e leaves of apart = absurd (cc e)
step_begins calls (Refused number' class seen) number step call e leaves of apart = absurd (cc e)
step_begins calls Ended number step call e leaves of apart = absurd (cc e)

-- the item of a step that begins its call is initial
pub step_initial : (item : Item) (number : ℕ) (step : Step) → step_by item ≡ Some (number, step) →
    begins_with_step step ≡ true →
    (is_initial item ≡ true) × (number_in item ≡ Some number) × (is_touch item ≡ false)
step_initial (Issue number' access) number step e begins = absurd (cc e)
step_initial (Null number') number step e begins = absurd (cc e)
step_initial (Touch issue element cell place bits) number step e begins = absurd (cc e)
step_initial (Flush number') number step e begins = (refl, ap Some (some_pair_parts number' number One step e).0, refl)
step_initial (Request number') number step e begins = (
  refl,
  ap Some (some_pair_parts number' number One step e).0,
  refl,
)
step_initial (Entry number' place step') number step e begins =
    let same = some_pair_parts number' number step' step e in
    (ap begins_with_step same.1 ∙ begins, ap Some same.0, refl)
step_initial (Tested number' seen) number step e begins = absurd (cc e)
step_initial (Refused number' class seen) number step e begins = absurd (cc e)
step_initial Ended number step e begins = absurd (cc e)

-- no step is a touch
pub step_untouched : (item : Item) (number : ℕ) (step : Step) → step_by item ≡ Some (number, step) →
    is_touch item ≡ false
step_untouched (Issue number' access) number step e = refl
step_untouched (Null number') number step e = refl
step_untouched (Touch issue element cell place bits) number step e = absurd (cc e)
step_untouched (Flush number') number step e = refl
step_untouched (Request number') number step e = refl
step_untouched (Entry number' place step') number step e = refl
step_untouched (Tested number' seen) number step e = refl
step_untouched (Refused number' class seen) number step e = refl
step_untouched Ended number step e = refl
