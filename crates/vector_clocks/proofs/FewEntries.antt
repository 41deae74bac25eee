-- A run has at most two entries for each call of its script.
use Rattle.std.proofs.Common.{◌≡◌, ℕ, zero, suc, ◌+◌, ◌*◌, ◌<◌, ◌≤◌, inl, inr, Bool, true, false, cond, not, List, [], ◌∷◌}
use Rattle.std.proofs.Common.{◌++◌, Option, Some, None, length, map, replicate, refl, ap, sym}
use Rattle.std.proofs.Common.{subst, ◌∙◌, arith}
use Rattle.std.specs.Prelude.{IsSomeAnd, slice_get, slice_index_or}
use Rattle.std.specs.List.{count_by, filter, sum_by}
use Rattle.std.proofs.lemmas.Bool.{cases_lt}
use Rattle.std.proofs.lemmas.List.{length-map, length-replicate}
use Rattle.std.proofs.lemmas.List.Sums.{sum_by-append, sum_by-cons}
use Rattle.std.proofs.lemmas.Option.{slice_get_within}
use Rattle.rma_types.specs.declared.accesses.Access.{Access}
use Rattle.rma_types.specs.declared.accesses.Step.TheVariants.{Arrive, Leave, One}
use Rattle.rma_types.specs.declared.calls.Call.{Call}
use Rattle.rma_types.specs.declared.classes.Class.{Class}
use Rattle.rma_types.specs.declared.schedules.Delay.TheVariants.{Seeded}
use Rattle.rma_types.specs.declared.scripts.Script.{Script}
use Rattle.rma_record.specs.declared.items.Item.{Item}
use Rattle.rma_record.specs.declared.items.Item.TheVariants.{Issue, Null, Touch, Flush, Request, Entry, Tested, Refused}
use Rattle.rma_record.specs.declared.items.Item.TheVariants.{Ended}
use Rattle.rma_record.specs.declared.runs.Run.{Run}
use Rattle.call_rules.specs.WellFormed.{IsWellFormed}
use Rattle.rank_rules.specs.Courses.{Course, OneNull, OneIssue, LookUpAndIssue, OneFlush, OneRequest, ArriveAndLeave}
use Rattle.rank_rules.specs.Courses.{EntryOrTested, OneEntry, course_of, access_of}
use Rattle.rank_rules.specs.Knowledge.{Knowledge, own_class}
use Rattle.lawful_runs.specs.CallItems.{AreItemsBy, AreItemsOf, AreItemsOfCourse, AreFinished, EndsOrStands, StandsAt}
use Rattle.lawful_runs.specs.CallItems.{HasItemsOfCalls, other_items}
use Rattle.lawful_runs.specs.Items.{is_entry, is_touch}
use Rattle.lawful_runs.specs.LawfulRun.{IsLawful, rank_in}
use Rattle.lawful_runs.specs.Logs.{Named, calls_of, entries_of, is_some_entry, log_of, named_from, named_in}
use Rattle.lawful_runs.specs.Logs.{named_items, named_logs}
use Rattle.lawful_runs.specs.Stages.{RankOfRun, calls_here, known_at}
use Rattle.vector_clocks.specs.Places.{no_entry, placed_item}
use Rattle.vector_clocks.proofs.Orders.{items_long, placed_all, with_items}

-- ---- the entries among some items

unfoldable entries_among : List Item → ℕ
entries_among items = count_by is_entry items

among_cons : (item : Item) (items : List Item) →
    entries_among (item ∷ items) ≡ cond (is_entry item) 1 0 + entries_among items
unfolding entries_among
among_cons item items = sum_by-cons (λ i. cond (is_entry i) 1 0) item items

among_append : (xs ys : List Item) → entries_among (xs ++ ys) ≡ entries_among xs + entries_among ys
unfolding entries_among
among_append xs ys = sum_by-append (λ i. cond (is_entry i) 1 0) xs ys

among_none : entries_among [] ≡ 0
unfolding entries_among
among_none = refl

at_most_one : (item : Item) → cond (is_entry item) 1 0 ≤ 1
at_most_one item = by_test (is_entry item)
  where
    by_test : (b : Bool) → ◌≤◌ (cond b 1 0) 1
    by_test true = omega arith
    by_test false = omega arith

few_one : (item : Item) → entries_among (item ∷ []) ≤ 1
few_one item =
    let all = among_cons item [] in
    let none = among_none in
    let one = at_most_one item in
    omega (arith, all, none, one)

few_two : (first second : Item) → entries_among (first ∷ second ∷ []) ≤ 2
few_two first second =
    let all = among_cons first (second ∷ []) in
    let rest = few_one second in
    let one = at_most_one first in
    omega (arith, all, rest, one)

by_one : (items : List Item) (item : Item) → items ≡ item ∷ [] → entries_among items ≤ 2
by_one items item is = let one = few_one item in subst (λ l. entries_among l ≤ 2) (sym is) (omega (arith, one))

by_two : (items : List Item) (first second : Item) → items ≡ first ∷ second ∷ [] → entries_among items ≤ 2
by_two items first second is = subst (λ l. entries_among l ≤ 2) (sym is) (few_two first second)

-- ---- the items of a call

course_few : (course : Course) (known : Knowledge) (number : ℕ) (call : Call) (items : List Item) →
    AreItemsOfCourse course known number call items → entries_among items ≤ 2
course_few OneNull known number call items is = by_one items (Null number) is
course_few OneIssue known number call items is = by_one items is.0 is.2
course_few LookUpAndIssue known number call items is = by_two items (Entry number is.0 One) is.1 is.3
course_few OneFlush known number call items is = by_one items (Flush number) is
course_few OneRequest known number call items is = by_one items (Request number) is
course_few ArriveAndLeave known number call items is =
    by_two items (Entry number is.0 Arrive) (Entry number is.1 Leave) is.2
course_few EntryOrTested known number call items (inl entry) = by_one items (Entry number entry.0 One) entry.1
course_few EntryOrTested known number call items (inr tested) = by_one items (Tested number tested.0) tested.1
course_few OneEntry known number call items is = by_one items (Entry number is.0 One) is.1

class_few : (o : Option Class) (known : Knowledge) (number : ℕ) (call : Call) (items : List Item) →
    AreItemsBy o known number call items → entries_among items ≤ 2
class_few (Some class) known number call items is = by_one items (Refused number class 0) is
class_few None known number call items (inl refused) =
    by_one items (Refused number refused.1 (suc refused.2)) refused.3
class_few None known number call items (inr accepted) =
    course_few (course_of known.windows call) known number call items accepted

call_few : (place_of : RankOfRun) (o : Option Call) (before : List Item) (number : ℕ) (items : List Item) →
    IsSomeAnd o (λ call. let known = known_at place_of before in
    AreItemsBy (own_class known call) known number call items) → entries_among items ≤ 2
call_few place_of None before number items is = absurd is
call_few place_of (Some call) before number items is =
    class_few (own_class (known_at place_of before) call) (known_at place_of before) number call items is

finished_few : (place_of : RankOfRun) (number : ℕ) (items : List Item) → AreFinished place_of number items →
    entries_among items ≤ 2 * number
finished_few place_of zero items is =
    let none = among_none in subst (λ l. entries_among l ≤ 0) (sym is) (omega (arith, none))
finished_few place_of (suc number) items is =
    let first = finished_few place_of number is.0 is.3 in
    let last = call_few place_of (slice_get (calls_here place_of) number) is.0 number is.1 is.4 in
    let all = among_append is.0 is.1 in
    subst (λ l. entries_among l ≤ 2 * suc number) (sym is.2) (omega (arith, first, last, all))

standing_few : (place_of : RankOfRun) (before : List Item) (number : ℕ) (call : Call) (rest : List Item) →
    StandsAt place_of before number call rest → entries_among rest ≤ 1
standing_few place_of before number call rest (own, inl none) =
    let zero_of = among_none in subst (λ l. entries_among l ≤ 1) (sym none.0) (omega (arith, zero_of))
standing_few place_of before number call rest (own, inr arrived) =
    subst (λ l. entries_among l ≤ 1) (sym arrived.1) (few_one (Entry number arrived.0 Arrive))

-- a rank has at most two entries for each of its calls
items_few : (place_of : RankOfRun) (items : List Item) → HasItemsOfCalls place_of items →
    entries_among items ≤ 2 * length (calls_here place_of)
items_few place_of items has =
    let first = finished_few place_of has.0 has.1 has.4 in
    let all = among_append has.1 has.2 in
    subst (λ l. entries_among l ≤ 2 * length (calls_here place_of)) (sym has.3)
    (ends (slice_get (calls_here place_of) has.0) refl has.5 first all)
  where
    ends : (o : Option Call) → slice_get (calls_here place_of) has.0 ≡ o →
        EndsOrStands place_of has.1 has.0 has.2 → entries_among has.1 ≤ 2 * has.0 →
        entries_among (has.1 ++ has.2) ≡ entries_among has.1 + entries_among has.2 →
        entries_among (has.1 ++ has.2) ≤ 2 * length (calls_here place_of)
    ends o got (inl ended) first all =
        let none = among_cons Ended [] in
        let zero_of = among_none in
        let rest : entries_among has.2 ≡ 0 = ap entries_among ended.1 ∙ omega (arith, none, zero_of) in
        let number = ended.0 in
        omega (arith, first, all, rest, number)
    ends None got (inr stands) first all = absurd (subst (λ o. IsSomeAnd o
        (λ call. StandsAt place_of has.1 has.0 call has.2)) got stands)
    ends (Some call) got (inr stands) first all =
        let within = slice_get_within (calls_here place_of) has.0 call got in
        let rest = standing_few place_of has.1 has.0 call has.2 (subst (λ o. IsSomeAnd o
        (λ call. StandsAt place_of has.1 has.0 call has.2)) got stands) in
        omega (arith, first, all, rest, within)

-- ---- the log of a rank

touch_is_none : (item : Item) → is_touch item ≡ true → ◌≡◌ {A = ℕ} (cond (is_entry item) 1 0) 0
touch_is_none (Issue number access) h = refl
touch_is_none (Null number) h = refl
touch_is_none (Touch issue element cell place bits) h = refl
touch_is_none (Flush number) h = refl
touch_is_none (Request number) h = refl
touch_is_none (Entry number place step) h = absurd (cc h)
touch_is_none (Tested number seen) h = refl
touch_is_none (Refused number class seen) h = refl
touch_is_none Ended h = refl

none_more : (n : ℕ) → 0 + n ≡ n
none_more n = omega arith

without_touches : (log : List Item) → entries_among log ≡ entries_among (other_items log)
without_touches [] = refl
without_touches (x ∷ log) = by_test (is_touch x) refl (without_touches log)
  where
    by_test : (b : Bool) → is_touch x ≡ b → entries_among log ≡ entries_among (other_items log) →
        entries_among (x ∷ log)
        ≡ entries_among (cond (not (is_touch x)) (x ∷ other_items log) (other_items log))
    by_test true e same = rw e
        (among_cons x log ∙ ap (λ n. n + entries_among log) (touch_is_none x e) ∙ none_more (entries_among log) ∙ same)
    by_test false e same = rw e
        (among_cons x log ∙ ap (λ n. cond (is_entry x) 1 0 + n) same ∙ sym (among_cons x (other_items log)))

log_few : (script : Script) (run : Run) → IsLawful script Seeded run → (rank : ℕ) → rank < script.ranks →
    entries_among (log_of run rank) ≤ 2 * length (calls_of script rank)
log_few script run lawful rank within =
    subst (λ n. n ≤ 2 * length (calls_of script rank)) (sym (without_touches (log_of run rank)))
    (items_few (rank_in script Seeded run rank) (other_items (log_of run rank)) (lawful.logs rank within).calls)

-- ---- all logs

named_entries : (rank index : ℕ) (log : List Item) →
    count_by is_some_entry (named_from rank index log) ≡ entries_among log
unfolding entries_among
named_entries rank index [] = refl
named_entries rank index (item ∷ log) =
    sum_by-cons (λ (x : Named). cond (is_some_entry x) 1 0)
    (record { id = record { rank = rank; index = index }; item = item }) (named_from rank (index + 1) log)
    ∙ ap (λ n. cond (is_entry item) 1 0 + n) (named_entries rank (index + 1) log)
    ∙ sym (sum_by-cons (λ i. cond (is_entry i) 1 0) item log)

logs_few : (first : ℕ) (logs : List (List Item)) (calls : List (List Call)) → length logs ≡ length calls →
    ((rank : ℕ) → rank < length logs →
    entries_among (slice_index_or logs rank []) ≤ 2 * length (slice_index_or calls rank [])) →
    count_by is_some_entry (named_logs first logs) ≤ 2 * sum_by length calls
logs_few first [] calls same each = omega arith
logs_few first (log ∷ logs) [] same each = absurd (omega (arith, same))
logs_few first (log ∷ logs) (list ∷ calls) same each =
    let here = each 0 (omega arith) in
    let rest = logs_few (first + 1) logs calls (omega (arith, same))
    (λ rank below. each (suc rank) (omega (arith, below))) in
    let named = named_entries first 0 log in
    let all = sum_by-append (λ (x : Named). cond (is_some_entry x) 1 0) (named_in first log)
    (named_logs (first + 1) logs) in
    let total = sum_by-cons length list calls in
    omega (arith, here, rest, named, all, total)

pub few_entries : (script : Script) (run : Run) → IsWellFormed script → IsLawful script Seeded run →
    count_by is_some_entry (named_items run) ≤ 131072
few_entries script run formed lawful =
    let logs = lawful.ranks in
    let lists = formed.lists in
    let all = logs_few 0 run.logs script.calls (logs ∙ sym lists)
    (λ rank below. log_few script run lawful rank (omega (arith, below, logs))) in
    let limit = formed.limits.calls in
    omega (arith, all, limit)

pub entries_few : (script : Script) (run : Run) → IsWellFormed script → IsLawful script Seeded run →
    length (entries_of run) ≤ 131072
entries_few script run formed lawful =
    let total = count_by is_some_entry (named_items run) in
    let order = with_items (replicate (count_by is_some_entry (named_items run)) no_entry) (named_items run) in
    let all = few_entries script run formed lawful in
    let placed = ap length (placed_all script run lawful.board.entries (count_by is_some_entry (named_items run)) refl) in
    let mapped = length-map (with_items (replicate (count_by is_some_entry (named_items run)) no_entry)
    (named_items run)) placed_item in
    let long = items_long (replicate (count_by is_some_entry (named_items run)) no_entry) (named_items run)
    ∙ length-replicate (count_by is_some_entry (named_items run)) no_entry in
    omega (arith, all, placed, mapped, long)
