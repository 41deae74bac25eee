-- The first item of a call in a lawful log: no item before it belongs to the call.
use Rattle.std.proofs.Common.{◌≡◌, ℕ, zero, suc, ◌≤◌, inl, inr, Bool, true, false, cond, not, List, [], ◌∷◌, ◌++◌, take}
use Rattle.std.proofs.Common.{Option, Some, None, refl, ap, sym, ◌∙◌, subst, arith, append_assoc}
use Rattle.std.specs.Prelude.{◌==◌, ◌||◌, slice_get, IsSomeAnd}
use Rattle.std.specs.List.{list_any}
use Rattle.std.specs.Option.{option_map_or}
use Rattle.std.proofs.lemmas.Bool.{ne_eqb}
use Rattle.std.proofs.lemmas.List.{append-nil}
use Rattle.list_laws.proofs.Options.{some_and}
use Rattle.rma_types.specs.declared.accesses.Step.{Step}
use Rattle.rma_types.specs.declared.accesses.Step.TheVariants.{Arrive, Leave, One}
use Rattle.rma_types.specs.declared.calls.Call.{Call}
use Rattle.rma_types.specs.declared.classes.Class.{Class}
use Rattle.rma_record.specs.declared.items.Item.{Item}
use Rattle.rma_record.specs.declared.items.Item.TheVariants.{Issue, Null, Touch, Flush, Request, Entry, Tested, Refused}
use Rattle.rma_record.specs.declared.items.Item.TheVariants.{Ended}
use Rattle.lawful_runs.specs.CallItems.{other_items, AreItemsOfCourse, AreItemsBy, AreItemsOf, AreFinished, StandsAt}
use Rattle.lawful_runs.specs.CallItems.{EndsOrStands, HasItemsOfCalls}
use Rattle.lawful_runs.specs.Items.{is_touch, number_in, belongs_to}
use Rattle.lawful_runs.specs.Stages.{RankOfRun, calls_here, known_at}
use Rattle.rank_rules.specs.Courses.{Course, OneNull, OneIssue, LookUpAndIssue, OneFlush, OneRequest, ArriveAndLeave}
use Rattle.rank_rules.specs.Courses.{EntryOrTested, OneEntry, course_of, access_of}
use Rattle.rank_rules.specs.Knowledge.{Knowledge, own_class}
use Rattle.rma_types.specs.declared.accesses.Access.{Access}

-- ---- the items of one call

-- an item that its call may begin with, other than an Issue: a flush or sync, the end of a request, or an entry but a
-- Leave
abbrev pub begins_with_step : Step → Bool
begins_with_step Arrive = true
begins_with_step Leave = false
begins_with_step One = true

abbrev pub is_initial : Item → Bool
is_initial (Issue number access) = false
is_initial (Null number) = false
is_initial (Touch issue element cell place bits) = false
is_initial (Flush number) = true
is_initial (Request number) = true
is_initial (Entry number place step) = begins_with_step step
is_initial (Tested number seen) = false
is_initial (Refused number class seen) = false
is_initial Ended = false

-- the items of a call of this number: one, or one and another that is not initial
pub data AreOfOne (number : ℕ) : List Item → Type 0 where
  Single : (x : Item) → number_in x ≡ Some number → AreOfOne number (x ∷ [])
  Double : (x y : Item) → number_in x ≡ Some number → number_in y ≡ Some number → is_initial y ≡ false →
      AreOfOne number (x ∷ y ∷ [])

single_if : (number : ℕ) (items : List Item) (x : Item) → items ≡ x ∷ [] → number_in x ≡ Some number →
    AreOfOne number items
single_if number items x is of = subst (AreOfOne number) (sym is) (Single x of)

issue_number : (o : Option Access) (number : ℕ) (item : Item) → IsSomeAnd o (λ access. item ≡ Issue number access) →
    (number_in item ≡ Some number) × (is_initial item ≡ false)
issue_number o number item h = let one = some_and o h in (ap number_in one.2, ap is_initial one.2)

course_items : (course : Course) (known : Knowledge) (number : ℕ) (call : Call) (items : List Item) →
    AreItemsOfCourse course known number call items → AreOfOne number items
course_items OneNull known number call items h = single_if number items (Null number) h refl
course_items OneIssue known number call items (item, issue, is) =
    single_if number items item is (issue_number (access_of known.windows call) number item issue).0
course_items LookUpAndIssue known number call items (place, item, issue, is) =
    let one = issue_number (access_of known.windows call) number item issue in
    subst (AreOfOne number) (sym is) (Double (Entry number place One) item refl one.0 one.1)
course_items OneFlush known number call items h = single_if number items (Flush number) h refl
course_items OneRequest known number call items h = single_if number items (Request number) h refl
course_items ArriveAndLeave known number call items (arrived, left, is) =
    subst (AreOfOne number) (sym is) (Double (Entry number arrived Arrive) (Entry number left Leave) refl refl refl)
course_items EntryOrTested known number call items (inl entry) =
    single_if number items (Entry number entry.0 One) entry.1 refl
course_items EntryOrTested known number call items (inr tested) =
    single_if number items (Tested number tested.0) tested.1 refl
course_items OneEntry known number call items (place, is) = single_if number items (Entry number place One) is refl

class_items : (o : Option Class) (known : Knowledge) (number : ℕ) (call : Call) (items : List Item) →
    AreItemsBy o known number call items → AreOfOne number items
class_items (Some class) known number call items h = single_if number items (Refused number class 0) h refl
class_items None known number call items (inl refused) =
    single_if number items (Refused number refused.1 (suc refused.2)) refused.3 refl
class_items None known number call items (inr accepted) =
    course_items (course_of known.windows call) known number call items accepted

pub one_call : (here : RankOfRun) (before : List Item) (number : ℕ) (items : List Item) →
    AreItemsOf here before number items →
    AreOfOne number items
one_call here before number items h =
    let call = some_and (slice_get (calls_here here) number) h in
    class_items (own_class (known_at here before) call.0) (known_at here before) number call.0 items call.2

-- ---- first items

-- each initial item of a list is the first of its call, after what stands before the list
abbrev AreFirsts : List Item → List Item → Type 0
AreFirsts before [] = Unit {0}
AreFirsts before (x ∷ xs) =
    (is_initial x ≡ true → (number : ℕ) → number_in x ≡ Some number → list_any (belongs_to number) before ≡ false)
    × AreFirsts (before ++ x ∷ []) xs

firsts_joined : (before xs ys : List Item) → AreFirsts before xs → AreFirsts (before ++ xs) ys →
    AreFirsts before (xs ++ ys)
firsts_joined before [] ys one two = subst (λ l. AreFirsts l ys) (append-nil before) two
firsts_joined before (x ∷ xs) ys one two = (
  one.0,
  firsts_joined (before ++ x ∷ []) xs ys one.1
      (subst (λ l. AreFirsts l ys) (sym (append_assoc before (x ∷ []) xs)) two),
)

-- no item belongs to a call of this number or of a greater one
abbrev AreBelow : ℕ → List Item → Type 0
AreBelow number items = (other : ℕ) → number ≤ other → list_any (belongs_to other) items ≡ false

none_joined : {X : Type 0} (p : X → Bool) (xs ys : List X) → list_any p xs ≡ false → list_any p ys ≡ false →
    list_any p (xs ++ ys) ≡ false
none_joined p [] ys one two = two
none_joined {X} p (x ∷ xs) ys one two = by_test (p x) one (λ h. none_joined p xs ys h two)
  where
    by_test : (b : Bool) → (b || list_any p xs) ≡ false → (list_any p xs ≡ false → list_any p (xs ++ ys) ≡ false) →
        (b || list_any p (xs ++ ys)) ≡ false
    by_test true h rest = absurd (cc h)
    by_test false h rest = rest h

other_number : (number other : ℕ) (x : Item) → number_in x ≡ Some number → suc number ≤ other →
    belongs_to other x ≡ false
other_number number other x is more =
    ap (λ o. option_map_or (λ n. n == other) o false) is ∙ ne_eqb number other (λ same. omega (arith, same, more))

none_of_one : (number : ℕ) (items : List Item) → AreOfOne number items → AreBelow (suc number) items
none_of_one number items (Single x of) other more = ap (λ b. b || false) (other_number number other x of more)
none_of_one number items (Double x y of_x of_y plain) other more =
    ap (λ b. b || (belongs_to other y || false)) (other_number number other x of_x more)
    ∙ ap (λ b. b || false) (other_number number other y of_y more)

first_of_one : (number : ℕ) (before items : List Item) → AreOfOne number items → AreBelow number before →
    AreFirsts before items
first_of_one number before items (Single x of) below = (λ initial other is. none other (cc (of, is)), tt)
  where
    none : (other : ℕ) → number ≡ other → list_any (belongs_to other) before ≡ false
    none other same = below other (omega (arith, same))
first_of_one number before items (Double x y of_x of_y plain) below =
    (λ initial other is. none other (cc (of_x, is)), (λ initial. absurd (cc (plain, initial)), tt))
  where
    none : (other : ℕ) → number ≡ other → list_any (belongs_to other) before ≡ false
    none other same = below other (omega (arith, same))

finished_below : (here : RankOfRun) (number : ℕ) (items : List Item) → AreFinished here number items →
    AreBelow number items
finished_below here zero items h other more = ap (list_any (belongs_to other)) h
finished_below here (suc number) items (before, last, is, earlier, of) other more =
    ap (list_any (belongs_to other)) is
    ∙ none_joined (belongs_to other) before last (finished_below here number before earlier other (omega arith))
    (none_of_one number last (one_call here before number last of) other more)

finished_firsts : (here : RankOfRun) (number : ℕ) (items : List Item) → AreFinished here number items →
    AreFirsts [] items
finished_firsts here zero items h = subst (AreFirsts []) (sym h) tt
finished_firsts here (suc number) items (before, last, is, earlier, of) =
    subst (AreFirsts []) (sym is)
    (firsts_joined [] before last (finished_firsts here number before earlier)
    (first_of_one number before last (one_call here before number last of) (finished_below here number before earlier)))

standing_firsts : (here : RankOfRun) (before : List Item) (number : ℕ) (call : Call) (rest : List Item) →
    AreBelow number before →
    StandsAt here before number call rest → AreFirsts before rest
standing_firsts here before number call rest below (own, inl none) = subst (AreFirsts before) (sym none.0) tt
standing_firsts here before number call rest below (own, inr arrived) =
    subst (AreFirsts before) (sym arrived.1)
    (first_of_one number before (Entry number arrived.0 Arrive ∷ [])
    (Single (Entry number arrived.0 Arrive) refl) below)

ending_firsts : (here : RankOfRun) (before : List Item) (number : ℕ) (rest : List Item) → AreBelow number before →
    EndsOrStands here before number rest → AreFirsts before rest
ending_firsts here before number rest below (inl ended) = subst (AreFirsts before) (sym ended.1)
    (λ initial. absurd (cc initial), tt)
ending_firsts here before number rest below (inr stands) =
    let call = some_and (slice_get (calls_here here) number) stands in
    standing_firsts here before number call.0 rest below call.2

items_firsts : (here : RankOfRun) (items : List Item) → HasItemsOfCalls here items → AreFirsts [] items
items_firsts here items (number, before, rest, is, finished, end) =
    subst (AreFirsts []) (sym is)
    (firsts_joined [] before rest (finished_firsts here number before finished)
    (ending_firsts here before number rest (finished_below here number before finished) end))

-- ---- with touches

touch_is_none : (x : Item) → is_touch x ≡ true → (is_initial x ≡ false) × ((number : ℕ) → belongs_to number x ≡ false)
touch_is_none (Issue number access) h = absurd (cc h)
touch_is_none (Null number) h = absurd (cc h)
touch_is_none (Touch issue element cell place bits) h = (refl, λ number. refl)
touch_is_none (Flush number) h = absurd (cc h)
touch_is_none (Request number) h = absurd (cc h)
touch_is_none (Entry number place step) h = absurd (cc h)
touch_is_none (Tested number seen) h = absurd (cc h)
touch_is_none (Refused number class seen) h = absurd (cc h)
touch_is_none Ended h = absurd (cc h)

-- the same calls have an item among two lists
abbrev HaveAlike : List Item → List Item → Type 0
HaveAlike xs ys = (number : ℕ) → list_any (belongs_to number) xs ≡ list_any (belongs_to number) ys

any_joined : {X : Type 0} (p : X → Bool) (xs ys : List X) → list_any p (xs ++ ys) ≡ (list_any p xs || list_any p ys)
any_joined p [] ys = refl
any_joined {X} p (x ∷ xs) ys = by_test (p x) (any_joined p xs ys)
  where
    by_test : (b : Bool) → list_any p (xs ++ ys) ≡ (list_any p xs || list_any p ys) →
        (b || list_any p (xs ++ ys)) ≡ ((b || list_any p xs) || list_any p ys)
    by_test true rest = refl
    by_test false rest = rest

log_firsts : (before front log : List Item) → HaveAlike before front → AreFirsts before (other_items log) →
    AreFirsts front log
log_firsts before front [] alike h = tt
log_firsts before front (x ∷ log) alike h = by_test (is_touch x) refl h
    (λ front' alike' rest. log_firsts before front' log alike' rest)
    (λ alike' rest. log_firsts (before ++ x ∷ []) (front ++ x ∷ []) log alike' rest)
  where
    by_test : (b : Bool) → is_touch x ≡ b → AreFirsts before (cond (not b) (x ∷ other_items log) (other_items log)) →
        ((front' : List Item) → HaveAlike before front' → AreFirsts before (other_items log) → AreFirsts front' log) →
        (HaveAlike (before ++ x ∷ []) (front ++ x ∷ []) → AreFirsts (before ++ x ∷ []) (other_items log) →
        AreFirsts (front ++ x ∷ []) log) → AreFirsts front (x ∷ log)
    by_test true touch h skip keep = (
      λ initial. absurd (cc (initial, (touch_is_none x touch).0)),
      skip (front ++ x ∷ []) (λ number. sym (any_joined (belongs_to number) front (x ∷ [])
          ∙ ap (λ b. list_any (belongs_to number) front || (b || false)) ((touch_is_none x touch).1 number)
          ∙ or_false (list_any (belongs_to number) front) ∙ sym (alike number))) h,
    )
      where
        or_false : (b : Bool) → (b || (false || false)) ≡ b
        or_false true = refl
        or_false false = refl
    by_test false other h skip keep = (
      λ initial number is. sym (alike number) ∙ h.0 initial number is,
      keep (λ number. any_joined (belongs_to number) before (x ∷ [])
          ∙ ap (λ b. b || (belongs_to number x || false)) (alike number)
          ∙ sym (any_joined (belongs_to number) front (x ∷ []))) h.1,
    )

first_at : (before log : List Item) (k : ℕ) (x : Item) (number : ℕ) → AreFirsts before log → slice_get log k ≡ Some x →
    is_initial x ≡ true → number_in x ≡ Some number → list_any (belongs_to number) (before ++ take k log) ≡ false
first_at before [] k x number h e initial is = absurd (cc e)
first_at before (y ∷ log) zero x number h e initial is =
    let same : y ≡ x = cc e in
    subst (λ l. list_any (belongs_to number) l ≡ false) (sym (append-nil before))
    (h.0 (ap is_initial same ∙ initial) number (ap number_in same ∙ is))
first_at before (y ∷ log) (suc k) x number h e initial is =
    subst (λ l. list_any (belongs_to number) l ≡ false) (append_assoc before (y ∷ []) (take k log))
    (first_at (before ++ y ∷ []) log k x number h.1 e initial is)

-- an initial item of a log is the first of its call
pub is_first : (here : RankOfRun) (log : List Item) (k : ℕ) (x : Item) (number : ℕ) →
    HasItemsOfCalls here (other_items log) →
    slice_get log k ≡ Some x → is_initial x ≡ true → number_in x ≡ Some number →
    list_any (belongs_to number) (take k log) ≡ false
is_first here log k x number calls e initial is =
    first_at [] log k x number (log_firsts [] [] log (λ n. refl) (items_firsts here (other_items log) calls)) e
    initial is
