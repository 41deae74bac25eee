-- In a lawful log nothing but touches stands between the Arrive of a call and its Leave, or after an Arrive at which
-- the rank stands.
use Rattle.std.proofs.Common.{◌≡◌, ℕ, zero, suc, ◌⊎◌, inl, inr, Bool, true, false, cond, not, List, [], ◌∷◌, ◌++◌}
use Rattle.std.proofs.Common.{length, Option, Some, None, refl, ap, sym, subst}
use Rattle.std.specs.Prelude.{slice_get, IsSomeAnd}
use Rattle.std.specs.List.{AllByRecursion}
use Rattle.list_laws.proofs.Options.{some_and}
use Rattle.rma_types.specs.declared.accesses.Access.{Access}
use Rattle.rma_types.specs.declared.accesses.Step.TheVariants.{Arrive, Leave, One}
use Rattle.rma_types.specs.declared.calls.Call.{Call}
use Rattle.rma_types.specs.declared.classes.Class.{Class}
use Rattle.rma_record.specs.declared.items.Item.{Item}
use Rattle.rma_record.specs.declared.items.Item.TheVariants.{Issue, Null, Flush, Request, Entry, Tested, Refused, Ended}
use Rattle.lawful_runs.specs.CallItems.{other_items, AreItemsOfCourse, AreItemsBy, AreItemsOf, AreFinished, StandsAt}
use Rattle.lawful_runs.specs.CallItems.{EndsOrStands, HasItemsOfCalls}
use Rattle.lawful_runs.specs.Items.{is_touch}
use Rattle.lawful_runs.specs.Stages.{RankOfRun, calls_here, known_at}
use Rattle.rank_rules.specs.Courses.{Course, OneNull, OneIssue, LookUpAndIssue, OneFlush, OneRequest, ArriveAndLeave}
use Rattle.rank_rules.specs.Courses.{EntryOrTested, OneEntry, course_of, access_of}
use Rattle.rank_rules.specs.Knowledge.{Knowledge, own_class}

-- ---- the items of calls

-- what stands behind the Arrive of the call of this number: its Leave, or nothing where the list may end so
abbrev IsMetBy : Bool → ℕ → List Item → Type 0
IsMetBy may_end number xs =
    ((may_end ≡ true) × (xs ≡ [])) ⊎ ((left : ℕ) × (rest : List Item) × (xs ≡ Entry number left Leave ∷ rest))

-- each Arrive of the list is followed so
abbrev AreMet : Bool → List Item → Type 0
AreMet may_end [] = Unit {0}
AreMet may_end (x ∷ xs) =
    ((number place : ℕ) → x ≡ Entry number place Arrive → IsMetBy may_end number xs) × AreMet may_end xs

met_joined : (may_end : Bool) (xs ys : List Item) → AreMet false xs → AreMet may_end ys → AreMet may_end (xs ++ ys)
met_joined may_end [] ys one two = two
met_joined may_end (x ∷ xs) ys one two = (
  λ number place is. elim (one.0 number place is) [
    | inl last ↦ absurd (cc (last.0))
    | inr left ↦ inr (left.0, left.1 ++ ys, ap (λ l. l ++ ys) left.2)
  ],
  met_joined may_end xs ys one.1 two,
)

single : (may_end : Bool) (items : List Item) (x : Item) → items ≡ x ∷ [] →
    ((number place : ℕ) → x ≡ Entry number place Arrive → ⊥) → AreMet may_end items
single may_end items x is other =
    subst (AreMet may_end) (sym is) (λ number place e. absurd (other number place e), tt)

issue_met : (o : Option Access) (number : ℕ) (item : Item) → IsSomeAnd o (λ access. item ≡ Issue number access) →
    (n place : ℕ) → item ≡ Entry n place Arrive → ⊥
issue_met o number item h n place is = let one = some_and o h in cc (one.2, is)

course_met : (course : Course) (known : Knowledge) (number : ℕ) (call : Call) (items : List Item) →
    AreItemsOfCourse course known number call items → AreMet false items
course_met OneNull known number call items h = single false items (Null number) h (λ n place e. cc e)
course_met OneIssue known number call items (item, issue, e) =
    single false items item e (issue_met (access_of known.windows call) number item issue)
course_met LookUpAndIssue known number call items (place, item, issue, e) =
    subst (AreMet false) (sym e) (
      λ n p same. absurd (cc same),
      (λ n p same. absurd (issue_met (access_of known.windows call) number item issue n p same), tt),
    )
course_met OneFlush known number call items h = single false items (Flush number) h (λ n place e. cc e)
course_met OneRequest known number call items h = single false items (Request number) h (λ n place e. cc e)
course_met ArriveAndLeave known number call items (arrived, left, e) =
    subst (AreMet false) (sym e) (
      λ n p same.
          let at : number ≡ n = cc same in inr (left, [], ap (λ k. Entry k left Leave ∷ []) at),
      (λ n p same. absurd (cc same), tt),
    )
course_met EntryOrTested known number call items (inl entry) =
    single false items (Entry number entry.0 One) entry.1 (λ n place e. cc e)
course_met EntryOrTested known number call items (inr tested) =
    single false items (Tested number tested.0) tested.1 (λ n place e. cc e)
course_met OneEntry known number call items (place, e) =
    single false items (Entry number place One) e (λ n p same. cc same)

class_met : (o : Option Class) (known : Knowledge) (number : ℕ) (call : Call) (items : List Item) →
    AreItemsBy o known number call items → AreMet false items
class_met (Some class) known number call items h =
    single false items (Refused number class 0) h (λ n place e. cc e)
class_met None known number call items (inl refused) =
    single false items (Refused number refused.1 (suc refused.2)) refused.3 (λ n place e. cc e)
class_met None known number call items (inr accepted) =
    course_met (course_of known.windows call) known number call items accepted

call_met : (here : RankOfRun) (before : List Item) (number : ℕ) (items : List Item) →
    AreItemsOf here before number items → AreMet false items
call_met here before number items h =
    let call = some_and (slice_get (calls_here here) number) h in
    class_met (own_class (known_at here before) call.0) (known_at here before) number call.0 items call.2

finished_met : (here : RankOfRun) (number : ℕ) (items : List Item) → AreFinished here number items →
    AreMet false items
finished_met here zero items h = subst (AreMet false) (sym h) tt
finished_met here (suc number) items (before, last, is, earlier, of) =
    subst (AreMet false) (sym is)
    (met_joined false before last (finished_met here number before earlier) (call_met here before number last of))

standing_met : (here : RankOfRun) (before : List Item) (number : ℕ) (call : Call) (rest : List Item) →
    StandsAt here before number call rest → AreMet true rest
standing_met here before number call rest (own, inl none) = subst (AreMet true) (sym none.0) tt
standing_met here before number call rest (own, inr arrived) =
    subst (AreMet true) (sym arrived.1) (λ n place e. inl (refl, refl), tt)

ending_met : (here : RankOfRun) (before : List Item) (number : ℕ) (rest : List Item) →
    EndsOrStands here before number rest → AreMet true rest
ending_met here before number rest (inl ended) = single true rest Ended ended.1 (λ n place e. cc e)
ending_met here before number rest (inr stands) =
    let call = some_and (slice_get (calls_here here) number) stands in
    standing_met here before number call.0 rest call.2

items_met : (here : RankOfRun) (items : List Item) → HasItemsOfCalls here items → AreMet true items
items_met here items (number, before, rest, is, finished, end) =
    subst (AreMet true) (sym is)
    (met_joined true before rest (finished_met here number before finished) (ending_met here before number rest end))

-- ---- with touches

abbrev pub AreTouches : List Item → Type 0
AreTouches items = AllByRecursion (λ item. is_touch item ≡ true) items

-- what stands behind the Arrive of the call of this number: touches alone, or touches and then its Leave
abbrev pub IsFollowed : ℕ → List Item → Type 0
IsFollowed number items = AreTouches items
    ⊎ ((touches : List Item) × (left : ℕ) × (rest : List Item)
    × (items ≡ touches ++ Entry number left Leave ∷ rest) × AreTouches touches)

one_more : (number : ℕ) (x : Item) (items : List Item) → is_touch x ≡ true → IsFollowed number items →
    IsFollowed number (x ∷ items)
one_more number x items touch (inl all) = inl (touch, all)
one_more number x items touch (inr (touches, left, rest, is, all)) =
    inr (x ∷ touches, left, rest, ap (λ l. x ∷ l) is, (touch, all))

touches_first : (number : ℕ) (items : List Item) → IsMetBy true number (other_items items) → IsFollowed number items
touches_first number [] h = inl tt
touches_first number (x ∷ items) h = by_test (is_touch x) refl h (λ k. touches_first number items k)
  where
    by_test : (b : Bool) → is_touch x ≡ b →
        IsMetBy true number (cond (not b) (x ∷ other_items items) (other_items items)) →
        (IsMetBy true number (other_items items) → IsFollowed number items) → IsFollowed number (x ∷ items)
    by_test true touch h rest = one_more number x items touch (rest h)
    by_test false other (inl none) rest = absurd (cc none.1)
    by_test false other (inr (left, more, e)) rest =
        let same : x ≡ Entry number left Leave = cc e in inr ([], left, items, ap (λ y. y ∷ items) same, tt)

-- a log from one of its Arrives on
pub record IsArrived (log : List Item) (index number place : ℕ) : Type 0 where
  pub earlier : List Item
  pub later : List Item
  pub split : log ≡ earlier ++ Entry number place Arrive ∷ later
  pub long : length earlier ≡ index
  pub followed : IsFollowed number later

after_arrive : (log : List Item) → AreMet true (other_items log) → (index number place : ℕ) →
    slice_get log index ≡ Some (Entry number place Arrive) → IsArrived log index number place
after_arrive [] met index number place e = absurd (cc e)
after_arrive (x ∷ log) met zero number place e =
    let same : x ≡ Entry number place Arrive = cc e in
    let kept : AreMet true (x ∷ other_items log) =
    subst (λ b. AreMet true (cond (not b) (x ∷ other_items log) (other_items log))) (ap is_touch same) met in
    record {
      earlier = [];
      later = log;
      split = ap (λ y. y ∷ log) same;
      long = refl;
      followed = touches_first number log (kept.0 number place same);
    }
after_arrive (x ∷ log) met (suc index) number place e =
    let rest = after_arrive log (by_test (is_touch x) met) index number place e in
    record {
      earlier = x ∷ rest.earlier;
      later = rest.later;
      split = ap (λ l. x ∷ l) rest.split;
      long = ap suc rest.long;
      followed = rest.followed;
    }
  where
    by_test : (b : Bool) → AreMet true (cond (not b) (x ∷ other_items log) (other_items log)) →
        AreMet true (other_items log)
    by_test true h = h
    by_test false h = h.1

pub arrived : (here : RankOfRun) (log : List Item) → HasItemsOfCalls here (other_items log) →
    (index number place : ℕ) → slice_get log index ≡ Some (Entry number place Arrive) →
    IsArrived log index number place
arrived here log calls index number place e =
    after_arrive log (items_met here (other_items log) calls) index number place e
