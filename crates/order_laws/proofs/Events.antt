-- The entries of a lawful run as events: each with its item, its row and the board's answer.
use Rattle.std.proofs.Common.{◌≡◌, ℕ, zero, suc, ◌+◌, ◌<◌, inl, inr, Bool, true, List, [], ◌∷◌, ◌++◌, length, Some}
use Rattle.std.proofs.Common.{refl, ap, sym, subst, ◌∙◌, arith, length-append, append_assoc}
use Rattle.std.specs.Prelude.{cond, map, slice_get, slice_index_or, nat_lt}
use Rattle.std.specs.List.{find, flat_map, count_by, zip, AllByRecursion}
use Rattle.std.specs.Option.{option_map_or}
use Rattle.std.proofs.lemmas.Bool.{false≢true, cases_Bool, eqb-true, cond-true, cond-false, lt-ltb}
use Rattle.std.proofs.lemmas.List.Sums.{sum_by-cons}
use Rattle.list_laws.proofs.Each.{AllFrom}
use Rattle.list_laws.proofs.Lists.{some_within}
use Rattle.list_laws.proofs.Members.{each_in, In, here, there, append_in, in_append_right}
use Rattle.rma_types.specs.declared.accesses.Step.{Step}
use Rattle.rma_types.specs.declared.schedules.Delay.{Delay}
use Rattle.rma_types.specs.declared.scripts.Script.{Script}
use Rattle.rma_record.specs.declared.items.Item.{Item}
use Rattle.rma_record.specs.declared.items.Item.TheVariants.{Issue, Null, Touch, Flush, Request, Entry, Tested, Refused}
use Rattle.rma_record.specs.declared.items.Item.TheVariants.{Ended}
use Rattle.rma_record.specs.declared.runs.Run.{Run}
use Rattle.call_rules.specs.Pieces.{numbers_from}
use Rattle.board_rules.specs.Edges.{events_after}
use Rattle.board_rules.specs.Entries.{Row}
use Rattle.lawful_runs.specs.Accesses.{EachPair}
use Rattle.lawful_runs.specs.BoardLaw.{AreAllowed, HasEntries, HasLawfulBoard, NamesItsCall, NamesCallOf, EntryAt}
use Rattle.lawful_runs.specs.BoardLaw.{IsBefore, moment_by, moments_in}
use Rattle.lawful_runs.specs.LawfulRun.{IsLawful}
use Rattle.lawful_runs.specs.Logs.{Named, log_of, calls_of, named_from, named_in, named_logs, named_items, is_entry_at}
use Rattle.lawful_runs.specs.Logs.{is_named_entry_at, is_some_entry, entry_at, entries_of, row_of, rows_of}
use Rattle.lawful_runs.proofs.LogLaws.{row_is, IsEntryOf}
use Rattle.order_rules.specs.Before.{named_event, events_in}
use Rattle.order_rules.proofs.EventLaws.{IsEventAt}

-- ---- lists

pub get_in : {X : Type 0} (xs : List X) (k : ℕ) (x : X) → slice_get xs k ≡ Some x → In x xs
get_in [] k x e = absurd (cc e)
get_in (y ∷ ys) zero x e = let same : y ≡ x = cc e in subst (λ z. In z (y ∷ ys)) same here
get_in (y ∷ ys) (suc k) x e = there (get_in ys k x e)

-- the first element that passes the test is found, where one passes it
pub found : {X : Type 0} (p : X → Bool) (xs : List X) → 0 < count_by p xs → (x : X) × (find p xs ≡ Some x) × In x xs
    × (p x ≡ true)
found p [] some = absurd (omega arith)
found p (x ∷ xs) some = elim (cases_Bool (p x)) [
  | inl passes ↦ (x, cond-true (p x) (Some x) (find p xs) passes, here, passes)
  | inr fails ↦
      let more : count_by p (x ∷ xs) ≡ cond (p x) 1 0 + count_by p xs = sum_by-cons (λ y. cond (p y) 1 0) x xs in
      let none : ◌≡◌ {A = ℕ} (cond (p x) 1 0) 0 = cond-false (p x) 1 0 fails in
      let rest = found p xs (omega (arith, some, more, none)) in
      (rest.0, cond-false (p x) (Some x) (find p xs) fails ∙ rest.1, there rest.2, rest.3)
]

-- ---- items and their names

named_from_in : (rank index : ℕ) (log : List Item) {x : Named} → In x (named_from rank index log) → (k : ℕ)
    × (x.id.index ≡ index + k) × (slice_get log k ≡ Some x.item) × (x.id.rank ≡ rank)
named_from_in rank index [] m = elim m [ ]
named_from_in rank index (item ∷ items) here = (0, omega arith, refl, refl)
named_from_in rank index (item ∷ items) (there m) =
    let rest = named_from_in rank (index + 1) items m in (suc rest.0, omega (arith, rest.1), rest.2, rest.3)

named_logs_in : (rank : ℕ) (logs : List (List Item)) {x : Named} → In x (named_logs rank logs) → (k : ℕ)
    × (x.id.rank ≡ rank + k) × (k < length logs) × (slice_get (slice_index_or logs k []) x.id.index ≡ Some x.item)
named_logs_in rank [] m = elim m [ ]
named_logs_in rank (log ∷ logs) {x} m = elim (append_in (named_in rank log) m) [
  | inl first ↦
      let one = named_from_in rank 0 log first in
      let same : one.0 ≡ x.id.index = omega (arith, one.1) in
      (0, omega (arith, one.3), omega arith, subst (λ k. slice_get log k ≡ Some x.item) same one.2)
  | inr rest ↦
      let later = named_logs_in (rank + 1) logs rest in
      (suc later.0, omega (arith, later.1), omega (arith, later.2), later.3)
]

-- a named item stands in the log of its rank, at its index
pub named_item_in : (run : Run) {x : Named} → In x (named_items run) → (x.id.rank < length run.logs)
    × (slice_get (log_of run x.id.rank) x.id.index ≡ Some x.item)
named_item_in run {x} m =
    let one = named_logs_in 0 run.logs m in
    let same : one.0 ≡ x.id.rank = omega (arith, one.1) in (
      omega (arith, one.1, one.2),
      subst (λ k. slice_get (slice_index_or run.logs k []) x.id.index ≡ Some x.item) same
          one.3,
    )

-- ---- entries

entry_is : (place : ℕ) (item : Item) → is_entry_at place item ≡ true → (number : ℕ) × (step : Step)
    × (item ≡ Entry number place step)
entry_is place (Issue number access) h = absurd (false≢true h)
entry_is place (Null number) h = absurd (false≢true h)
entry_is place (Touch issue element cell at bits) h = absurd (false≢true h)
entry_is place (Flush number) h = absurd (false≢true h)
entry_is place (Request number) h = absurd (false≢true h)
entry_is place (Entry number other step) h = (number, step, ap (λ n. Entry number n step) (eqb-true other place h))
entry_is place (Tested number seen) h = absurd (false≢true h)
entry_is place (Refused number class seen) h = absurd (false≢true h)
entry_is place Ended h = absurd (false≢true h)

entry_of : (script : Script) (run : Run) → length run.logs ≡ script.ranks → AllByRecursion (NamesItsCall script)
    (named_items run) →
    (place : ℕ) (x : Named) → In x (named_items run) → is_named_entry_at place x ≡ true → IsEntryOf script run place x
entry_of script run ranks calls place x m h =
    let item = entry_is place x.item h in
    let stands = named_item_in run m in
    let named : NamesCallOf script x.id.rank x.item = each_in (NamesItsCall script) (named_items run) calls m in
    let below : item.0 < length (calls_of script x.id.rank) = subst (NamesCallOf script x.id.rank) item.2 named in
    let call = some_within (calls_of script x.id.rank) item.0 below in
    record {
      number = item.0;
      step = item.1;
      call = call.0;
      is = item.2;
      of_rank = call.1;
      within = omega
          (arith, stands.0, ranks);
      logged = stands.1;
    }

entries_from : (script : Script) (run : Run) (items : List Named) →
    ((place : ℕ) (x : Named) → In x items → is_named_entry_at place x ≡ true → IsEntryOf script run place x) →
    (first count : ℕ) → ((place : ℕ) → place < first + count → 0 < count_by (is_named_entry_at place) items) →
    AllFrom (IsEntryOf script run) first (flat_map (entry_at items) (numbers_from first count))
unfolding AllFrom
entries_from script run items each first zero some = tt
entries_from script run items each first (suc count) some =
    let one = found (is_named_entry_at first) items (some first (omega arith)) in
    let single : entry_at items first ≡ one.0 ∷ [] = ap (λ o. option_map_or (λ x. x ∷ []) o []) one.1 in
    let rest = entries_from script run items each (first + 1) count (λ place below. some place (omega (arith, below)))
    in
    subst (λ l. AllFrom (IsEntryOf script run) first (l ++ flat_map (entry_at items) (numbers_from (first + 1) count)))
    (sym single) (each first one.0 one.2 one.3, rest)

-- the entries of a lawful run have their places
pub entries_placed : (script : Script) (run : Run) → length run.logs ≡ script.ranks → HasEntries script run →
    AllFrom (IsEntryOf script run) 0 (entries_of run)
entries_placed script run ranks has =
    let items = named_items run in
    let total = count_by is_some_entry items in
    entries_from script run items (entry_of script run ranks has.calls) 0 total
    (λ place below.
    let one : count_by (is_named_entry_at place) items ≡ 1 =
    has.places place ∙ cond-true (nat_lt place total) 1 0 (lt-ltb place total (omega (arith, below))) in
    omega (arith, one))

-- ---- events

-- one more event
one_zipped : (script : Script) (run : Run) (rows before : List Row) (place : ℕ) (x : Named) (es : List Named)
    (e : IsEntryOf script run place x) (rest : List Row) → length before ≡ place →
    rows ≡ before ++ (record { rank = x.id.rank; number = e.number; call = e.call; step = e.step } ∷ rest) →
    AreAllowed script.ranks before (record { rank = x.id.rank; number = e.number; call = e.call; step = e.step } ∷ rest)
    →
    ((longer : List Row) → length longer ≡ place + 1 → rows ≡ longer ++ rest → AreAllowed script.ranks longer rest →
    AllFrom (IsEventAt script run rows) (place + 1)
    (map named_event (zip es (events_after script.ranks (place + 1) longer rest)))) →
    AllFrom (IsEventAt script run rows) place
    (map named_event (zip (x ∷ es) (events_after script.ranks place before
    (record { rank = x.id.rank; number = e.number; call = e.call; step = e.step } ∷ rest))))
unfolding AllFrom
one_zipped script run rows before place x es e rest long split allowed others =
    let row : Row = record { rank = x.id.rank; number = e.number; call = e.call; step = e.step } in (
      record {
        number = e.number;
        logged = e.logged ∙ ap Some e.is;
        within = e.within;
        before = before;
        row = row;
        rest = rest;
        rank = refl;
        split = split;
        long = long;
        event = refl;
        allowed = allowed.0;
      },
      others (before ++ row ∷ []) (length-append before (row ∷ []) ∙ ap (λ n. n + 1) long)
          (split ∙ sym (append_assoc before (row ∷ []) rest)) allowed.1,
    )

events_zipped : (script : Script) (run : Run) (rows before : List Row) (place : ℕ) (es : List Named) →
    length before ≡ place →
    rows ≡ before ++ flat_map (row_of script) es → AllFrom (IsEntryOf script run) place es →
    AreAllowed script.ranks before (flat_map (row_of script) es) →
    AllFrom (IsEventAt script run rows) place
    (map named_event (zip es (events_after script.ranks place before (flat_map (row_of script) es))))
unfolding AllFrom
events_zipped script run rows before place [] long split all allowed = tt
events_zipped script run rows before place (x ∷ es) long split all allowed =
    subst (λ rs. rows ≡ before ++ (rs ++ flat_map (row_of script) es) → AreAllowed script.ranks before
    (rs ++ flat_map (row_of script) es) →
    AllFrom (IsEventAt script run rows) place
    (map named_event (zip (x ∷ es) (events_after script.ranks place before (rs ++ flat_map (row_of script) es)))))
    (sym (row_is script run place x all.0))
    (λ split allowed. one_zipped script run rows before place x es all.0 (flat_map (row_of script) es) long split
    allowed
    (λ longer long split allowed. events_zipped script run rows longer (place + 1) es long split all.1 allowed))
    split allowed

-- the events of a run whose board is lawful
pub events_on_board : (script : Script) (run : Run) → length run.logs ≡ script.ranks → HasLawfulBoard script run →
    AllFrom (IsEventAt script run (rows_of script run)) 0 (events_in script run)
events_on_board script run ranks board =
    events_zipped script run (rows_of script run) [] 0 (entries_of run) refl refl
    (entries_placed script run ranks board.entries) board.allowed

-- the events of a lawful run
pub events_placed : (script : Script) (delay : Delay) (run : Run) → IsLawful script delay run →
    AllFrom (IsEventAt script run (rows_of script run)) 0 (events_in script run)
events_placed script delay run lawful = events_on_board script run lawful.ranks lawful.board

-- ---- the places of one log ascend

pair_rest : {X : Type 0} (R : X → X → Type 0) (xs ys : List X) → EachPair R (xs ++ ys) → EachPair R ys
pair_rest R [] ys all = all
pair_rest R (x ∷ xs) ys all = pair_rest R xs ys all.1

moment_in : (log : List Item) (number place : ℕ) (step : Step) → In (Entry number place step) log →
    In (EntryAt place) (moments_in log)
moment_in [] number place step m = elim m [ ]
moment_in (item ∷ items) number place step here = here
moment_in (item ∷ items) number place step (there m) = in_append_right (moment_by item)
    (moment_in items number place step m)

pub places_ascend : (log : List Item) (i j a b p q : ℕ) (s t : Step) → EachPair IsBefore (moments_in log) →
    slice_get log i ≡ Some (Entry a p s) → slice_get log j ≡ Some (Entry b q t) → i < j → p < q
places_ascend [] i j a b p q s t all first second before = absurd (cc first)
places_ascend (item ∷ items) i zero a b p q s t all first second before = absurd (omega arith)
places_ascend (item ∷ items) zero (suc j) a b p q s t all first second before =
    let is : item ≡ Entry a p s = cc first in
    let pairs : EachPair IsBefore (EntryAt p ∷ moments_in items) = subst
    (λ it. EachPair IsBefore (moment_by it ++ moments_in items)) is all in
    each_in (IsBefore (EntryAt p)) (moments_in items) pairs.0
    (moment_in items b q t (get_in items j (Entry b q t) second))
places_ascend (item ∷ items) (suc i) (suc j) a b p q s t all first second before =
    places_ascend items i j a b p q s t (pair_rest IsBefore (moment_by item) (moments_in items) all) first second
    (omega (arith, before))
