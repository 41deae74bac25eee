-- The entries that are put at their places are those of the run, in the order of their places.
use Rattle.std.proofs.Common.{◌≡◌, ℕ, zero, suc, ◌+◌, ◌<◌, inl, inr, Bool, true, false, List, [], ◌∷◌, ◌++◌, length}
use Rattle.std.proofs.Common.{Some, refl, ap, sym, subst, ◌∙◌, arith}
use Rattle.std.specs.Prelude.{cond, map, replicate, slice_get, slice_set, nat_lt}
use Rattle.std.specs.List.{find, flat_map, count_by}
use Rattle.std.specs.Option.{option_map_or}
use Rattle.std.proofs.lemmas.Bool.{false≢true, cases_Bool, cases_eq, eqb-true, eq-eqb, cond-true, cond-false, lt-ltb}
use Rattle.std.proofs.lemmas.List.{length-replicate}
use Rattle.std.proofs.lemmas.List.Sums.{sum_by-cons}
use Rattle.rma_types.specs.declared.accesses.Id.{Id}
use Rattle.rma_types.specs.declared.scripts.Script.{Script}
use Rattle.rma_record.specs.declared.items.Item.{Item}
use Rattle.rma_record.specs.declared.items.Item.TheVariants.{Issue, Null, Touch, Flush, Request, Entry, Tested, Refused}
use Rattle.rma_record.specs.declared.items.Item.TheVariants.{Ended}
use Rattle.rma_record.specs.declared.runs.Run.{Run}
use Rattle.call_rules.specs.Pieces.{numbers_from}
use Rattle.lawful_runs.specs.BoardLaw.{HasEntries}
use Rattle.lawful_runs.specs.Logs.{Named, named_items, is_named_entry_at, is_some_entry, entry_at, entries_of}
use Rattle.vector_clocks.specs.Places.{placed_item, no_entry}
use Rattle.vector_clocks.specs.declared.places.Placed.{Placed}

-- the list with this item at its place, where it is an entry
abbrev pub with_item : List Placed → Id → Item → List Placed
with_item list id (Issue number access) = list
with_item list id (Null number) = list
with_item list id (Touch issue element cell place bits) = list
with_item list id (Flush number) = list
with_item list id (Request number) = list
with_item list id (Entry number place step) =
    slice_set list place (record { id = id; call = number; place = place; step = step })
with_item list id (Tested number seen) = list
with_item list id (Refused number class seen) = list
with_item list id Ended = list

-- the list with the entries of some items, each at its place
abbrev pub with_items : List Placed → List Named → List Placed
with_items list [] = list
with_items list (one ∷ rest) = with_items (with_item list one.id one.item) rest

set_long : (list : List Placed) (k : ℕ) (one : Placed) → length (slice_set list k one) ≡ length list
set_long [] k one = refl
set_long (x ∷ list) zero one = refl
set_long (x ∷ list) (suc k) one = ap suc (set_long list k one)

set_here : (list : List Placed) (k : ℕ) (one : Placed) → k < length list → slice_get (slice_set list k one) k ≡ Some one
set_here [] k one within = absurd (omega arith)
set_here (x ∷ list) zero one within = refl
set_here (x ∷ list) (suc k) one within = set_here list k one (omega (arith, within))

set_apart : (list : List Placed) (k other : ℕ) (one : Placed) → (k ≡ other → ⊥) →
    slice_get (slice_set list k one) other ≡ slice_get list other
set_apart [] k other one apart = refl
set_apart (x ∷ list) zero zero one apart = absurd (apart refl)
set_apart (x ∷ list) zero (suc other) one apart = refl
set_apart (x ∷ list) (suc k) zero one apart = refl
set_apart (x ∷ list) (suc k) (suc other) one apart = set_apart list k other one (λ same. apart (ap suc same))

item_long : (list : List Placed) (id : Id) (item : Item) → length (with_item list id item) ≡ length list
item_long list id (Issue number access) = refl
item_long list id (Null number) = refl
item_long list id (Touch issue element cell place bits) = refl
item_long list id (Flush number) = refl
item_long list id (Request number) = refl
item_long list id (Entry number place step) =
    set_long list place (record { id = id; call = number; place = place; step = step })
item_long list id (Tested number seen) = refl
item_long list id (Refused number class seen) = refl
item_long list id Ended = refl

pub items_long : (list : List Placed) (items : List Named) → length (with_items list items) ≡ length list
items_long list [] = refl
items_long list (x ∷ items) = items_long (with_item list x.id x.item) items ∙ item_long list x.id x.item

-- an item that is not the entry at the place leaves what stands there
item_apart : (list : List Placed) (id : Id) (item : Item) (p : ℕ) →
    is_named_entry_at p (record { id = id; item = item }) ≡ false → slice_get (with_item list id item) p
    ≡ slice_get list p
item_apart list id (Issue number access) p h = refl
item_apart list id (Null number) p h = refl
item_apart list id (Touch issue element cell place bits) p h = refl
item_apart list id (Flush number) p h = refl
item_apart list id (Request number) p h = refl
item_apart list id (Entry number place step) p h = elim (cases_eq place p) [
  | inl same ↦ absurd (false≢true (sym h ∙ eq-eqb place p same))
  | inr apart ↦ set_apart list place p (record { id = id; call = number; place = place; step = step }) apart
]
item_apart list id (Tested number seen) p h = refl
item_apart list id (Refused number class seen) p h = refl
item_apart list id Ended p h = refl

-- the entry at the place stands there
item_here : (list : List Placed) (id : Id) (item : Item) (p : ℕ) → p < length list →
    is_named_entry_at p (record { id = id; item = item }) ≡ true →
    (one : Placed) × (slice_get (with_item list id item) p ≡ Some one) ×
    (placed_item one ≡ record { id = id; item = item })
item_here list id (Issue number access) p within h = absurd (false≢true h)
item_here list id (Null number) p within h = absurd (false≢true h)
item_here list id (Touch issue element cell place bits) p within h = absurd (false≢true h)
item_here list id (Flush number) p within h = absurd (false≢true h)
item_here list id (Request number) p within h = absurd (false≢true h)
item_here list id (Entry number place step) p within h =
    let same : place ≡ p = eqb-true place p h in
    let one : Placed = record { id = id; call = number; place = place; step = step } in (
      one,
      subst (λ q. slice_get (slice_set list place one) q ≡ Some one) same
          (set_here list place one (omega (arith, within, same))),
      refl,
    )
item_here list id (Tested number seen) p within h = absurd (false≢true h)
item_here list id (Refused number class seen) p within h = absurd (false≢true h)
item_here list id Ended p within h = absurd (false≢true h)

count_more : (test : Named → Bool) (x : Named) (items : List Named) → count_by test (x ∷ items)
    ≡ cond (test x) 1 0 + count_by test items
count_more test x items = sum_by-cons (λ y. cond (test y) 1 0) x items

items_apart : (list : List Placed) (items : List Named) (p : ℕ) → count_by (is_named_entry_at p) items ≡ 0 →
    slice_get (with_items list items) p ≡ slice_get list p
items_apart list [] p none = refl
items_apart list (x ∷ items) p none = elim (cases_Bool (is_named_entry_at p x)) [
  | inl passes ↦
      let more = count_more (is_named_entry_at p) x items in
      let one : ◌≡◌ {A = ℕ} (cond (is_named_entry_at p x) 1 0) 1 = cond-true (is_named_entry_at p x) 1 0 passes in
      absurd (omega (arith, none, more, one))
  | inr fails ↦
      let more = count_more (is_named_entry_at p) x items in
      items_apart (with_item list x.id x.item) items p (omega (arith, none, more)) ∙ item_apart list x.id x.item p fails
]

-- what stands at a place is the entry at the place
IsFoundAt : List Placed → List Named → ℕ → ℕ → Type 0
IsFoundAt list items at p = (x : Named) × (one : Placed) × (find (is_named_entry_at p) items ≡ Some x) ×
    (slice_get list at ≡ Some one) × (placed_item one ≡ x)

found_at : (list : List Placed) (items : List Named) (p : ℕ) → p < length list → count_by (is_named_entry_at p) items
    ≡ 1 → IsFoundAt (with_items list items) items p p
unfolding IsFoundAt
found_at list [] p within one = absurd (omega (arith, one))
found_at list (x ∷ items) p within one = elim (cases_Bool (is_named_entry_at p x)) [
  | inl passes ↦
      let more = count_more (is_named_entry_at p) x items in
      let first : ◌≡◌ {A = ℕ} (cond (is_named_entry_at p x) 1 0) 1 = cond-true (is_named_entry_at p x) 1 0 passes in
      let put = item_here list x.id x.item p within passes in (
        x,
        put.0,
        cond-true (is_named_entry_at p x) (Some x) (find (is_named_entry_at p) items) passes,
        items_apart (with_item list x.id x.item) items p (omega (arith, one, more, first)) ∙ put.1,
        put.2,
      )
  | inr fails ↦
      let more = count_more (is_named_entry_at p) x items in
      let none : ◌≡◌ {A = ℕ} (cond (is_named_entry_at p x) 1 0) 0 = cond-false (is_named_entry_at p x) 1 0 fails in
      let long = item_long list x.id x.item in
      let rest = found_at (with_item list x.id x.item) items p (omega (arith, within, long))
      (omega (arith, one, more, none)) in (
        rest.0,
        rest.1,
        cond-false (is_named_entry_at p x) (Some x) (find (is_named_entry_at p) items) fails ∙ rest.2,
        rest.3,
        rest.4,
      )
]

all_found : (list : List Placed) (items : List Named) (first : ℕ) →
    ((k : ℕ) → k < length list → IsFoundAt list items k (first + k)) →
    map placed_item list ≡ flat_map (entry_at items) (numbers_from first (length list))
unfolding IsFoundAt
all_found [] items first each = refl
all_found (y ∷ list) items first each =
    let here = each 0 (omega arith) in
    let got : y ≡ here.1 = cc here.3 in
    let at : find (is_named_entry_at first) items ≡ Some here.0 =
    subst (λ p. find (is_named_entry_at p) items ≡ Some here.0) zero_more here.2 in
    let one : entry_at items first ≡ placed_item y ∷ [] =
    ap (λ o. option_map_or (λ x. x ∷ []) o []) at ∙ ap (λ x. x ∷ []) (sym (ap placed_item got ∙ here.4)) in
    let rest = all_found list items (first + 1) (λ k below. let later = each (suc k) (omega (arith, below)) in (
      later.0,
      later.1,
      subst (λ p. find (is_named_entry_at p) items ≡ Some later.0) (more k) later.2,
      later.3,
      later.4,
    )) in
    ap (λ l. placed_item y ∷ l) rest ∙ ap (λ l.
    l ++ flat_map (entry_at items) (numbers_from (first + 1) (length list))) (sym one)
  where
    zero_more : first + 0 ≡ first
    zero_more = omega arith

    more : (k : ℕ) → first + suc k ≡ first + 1 + k
    more k = omega arith

pub placed_all : (script : Script) (run : Run) → HasEntries script run → (total : ℕ) →
    total ≡ count_by is_some_entry (named_items run) →
    map placed_item (with_items (replicate total no_entry) (named_items run)) ≡ entries_of run
placed_all script run has total is =
    let items = named_items run in
    let long : length (with_items (replicate total no_entry) (named_items run)) ≡ total =
    items_long (replicate total no_entry) (named_items run) ∙ length-replicate total no_entry in
    let first : length (replicate total no_entry) ≡ total = length-replicate total no_entry in
    let each : (k : ℕ) → k < length (with_items (replicate total no_entry) (named_items run)) →
    IsFoundAt (with_items (replicate total no_entry) (named_items run)) (named_items run) k (0 + k) =
    λ k below.
    let one : count_by (is_named_entry_at k) (named_items run) ≡ 1 =
    has.places k ∙ cond-true (nat_lt k (count_by is_some_entry (named_items run))) 1 0
    (lt-ltb k (count_by is_some_entry (named_items run)) (omega (arith, below, long, is))) in
    let at : k ≡ 0 + k = omega arith in
    subst (λ p. IsFoundAt (with_items (replicate total no_entry) (named_items run)) (named_items run) k p) at
    (found_at (replicate total no_entry) (named_items run) k (omega (arith, below, long, first)) one) in
    all_found (with_items (replicate total no_entry) (named_items run)) (named_items run) 0 each
    ∙ ap (λ n. flat_map (entry_at (named_items run)) (numbers_from 0 n)) (long ∙ is)
