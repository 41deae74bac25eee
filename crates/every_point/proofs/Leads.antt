-- The entries to which an edge leads from one entry.
use Rattle.std.proofs.Common.{◌≡◌, ℕ, zero, suc, ◌+◌, ◌<◌, Bool, true, false, List, [], ◌∷◌, ◌++◌, Some, refl}
use Rattle.std.proofs.Common.{ap, sym, subst, arith}
use Rattle.std.specs.Prelude.{map, take, slice_get, if◌then◌else◌, ◌&&◌}
use Rattle.std.specs.List.{filter, list_any}
use Rattle.std.proofs.lemmas.Bool.{and_from, and_parts}
use Rattle.list_laws.proofs.Each.{AllFrom}
use Rattle.list_laws.proofs.Members.{from_in, In, here, there, any_in, filter_in, in_any, in_filter, in_map, map_in}
use Rattle.list_laws.proofs.Truths.{same_truth}
use Rattle.rma_types.specs.declared.accesses.Id.{Id}
use Rattle.rma_types.specs.declared.schedules.Delay.{Delay}
use Rattle.rma_types.specs.declared.scripts.Script.{Script}
use Rattle.rma_record.specs.declared.runs.Run.{Run}
use Rattle.board_rules.specs.Edges.{Event}
use Rattle.lawful_runs.specs.LawfulRun.{IsLawful}
use Rattle.lawful_runs.specs.Logs.{rows_of}
use Rattle.order_rules.specs.Before.{NamedEvent, events_in, events_named, is_edge_between, is_same_id, leads_to}
use Rattle.order_rules.proofs.EventLaws.{IsEventAt}
use Rattle.order_laws.proofs.Events.{events_placed, get_in}
use Rattle.order_laws.proofs.Order.{edge_ascends}
use Rattle.vector_clocks.proofs.Rows.{place_taken}
use Rattle.every_point.specs.Edges.{is_among, is_led_from, led_among}

-- ---- lists and tests

in_take : {X : Type 0} (xs : List X) (k n : ℕ) (x : X) → slice_get xs k ≡ Some x → k < n → In x (take n xs)
in_take [] k n x e below = absurd (cc e)
in_take (y ∷ ys) k zero x e below = absurd (omega (arith, below))
in_take (y ∷ ys) zero (suc n) x e below = let same : y ≡ x = cc e in subst (λ z. In z (y ∷ take n ys)) same here
in_take (y ∷ ys) (suc k) (suc n) x e below = there (in_take ys k n x e (omega (arith, below)))

from_get : {X : Type 0} (P : ℕ → X → Type 0) (at : ℕ) (xs : List X) (k : ℕ) (x : X) → AllFrom P at xs →
    slice_get xs k ≡ Some x → P (at + k) x
unfolding AllFrom
from_get P at [] k x all e = absurd (cc e)
from_get P at (y ∷ ys) zero x all e =
    let same : y ≡ x = cc e in
    let place : at ≡ at + 0 = omega arith in
    subst (λ n. P n x) place (subst (P at) same all.0)
from_get P at (y ∷ ys) (suc k) x all e =
    let place : at + 1 + k ≡ at + suc k = omega arith in
    subst (λ n. P n x) place (from_get P (at + 1) ys k x all.1 e)

-- those that pass, with one more
pub names_more : {X Y : Type 0} (f : X → Y) (p : X → Bool) (xs : List X) (x : X) →
    map f (filter p (xs ++ x ∷ [])) ≡ map f (filter p xs) ++ (if p x then f x ∷ [] else [])
names_more f p [] x = last (p x)
  where
    last : (b : Bool) → map f (if b then x ∷ [] else []) ≡ (if b then f x ∷ [] else [])
    last true = refl
    last false = refl
names_more {X} {Y} f p (y ∷ ys) x = first (p y) (filter p (ys ++ x ∷ [])) (filter p ys) (names_more f p ys x)
  where
    first : (b : Bool) (more some : List X) → map f more ≡ map f some ++ (if p x then f x ∷ [] else []) →
        map f (if b then y ∷ more else more) ≡ map f (if b then y ∷ some else some) ++ (if p x then f x ∷ [] else [])
    first true more some same = ap (λ l. f y ∷ l) same
    first false more some same = same

-- ---- edges

module _ (script : Script) (delay : Delay) (run : Run) (lawful : IsLawful script delay run) (from : Id) (count : ℕ)
    (entry : NamedEvent) (stands : slice_get (events_in script run) count ≡ Some entry) where
  -- the entry is the one of this name, and an edge leads from it
  abbrev leads_here : NamedEvent → Bool
  leads_here e = is_same_id e.id from && is_edge_between e entry

  forth : list_any leads_here (take count (events_in script run)) ≡ true →
      is_led_from (events_in script run) from entry ≡ true
  forth h =
      let one = any_in leads_here (take count (events_in script run)) h in
      let parts = and_parts (is_same_id one.0.id from) (is_edge_between one.0 entry) one.2 in
      let whole = place_taken script run 0 (events_in script run) count (events_placed script delay run lawful) one.1 in
      in_any (λ first. is_edge_between first entry)
      (in_filter (λ (x : NamedEvent). is_same_id x.id from) whole.0 parts.0) parts.1

  back : is_led_from (events_in script run) from entry ≡ true →
      list_any leads_here (take count (events_in script run)) ≡ true
  back h =
      let one = any_in (λ first. is_edge_between first entry) (events_named (events_in script run) from) h in
      let is = filter_in (λ (x : NamedEvent). is_same_id x.id from) (events_in script run) one.1 in
      let new : In entry (events_in script run) = get_in (events_in script run) count entry stands in
      let below = edge_ascends script delay run lawful one.0 entry is.0 new one.2 in
      let placed = events_placed script delay run lawful in
      let at = from_in (IsEventAt script run (rows_of script run)) 0 (events_in script run) placed is.0 in
      let place : one.0.event.place ≡ 0 + at.0 = ap (λ (e : Event). e.place) at.1.event in
      let here_at = from_get (IsEventAt script run (rows_of script run)) 0 (events_in script run) count entry placed
      stands in
      let last : entry.event.place ≡ 0 + count = ap (λ (e : Event). e.place) here_at.event in
      in_any leads_here
      (in_take (events_in script run) at.0 count one.0 at.2 (omega (arith, below, place, last)))
      (and_from (is_same_id one.0.id from) (is_edge_between one.0 entry) is.1 one.2)

  -- of the entries before it, that of the name leads to it, exactly where it does so at all
  pub led_here : list_any (λ (e : NamedEvent). is_same_id e.id from && is_edge_between e entry)
      (take count (events_in script run))
      ≡ is_led_from (events_in script run) from entry
  led_here = same_truth (list_any leads_here (take count (events_in script run)))
      (is_led_from (events_in script run) from entry) forth back

-- ---- names

module _ (events : List NamedEvent) (from x : Id) where
  named_forth : is_among (led_among events from events) x ≡ true → leads_to events from x ≡ true
  named_forth h =
      let one = any_in (λ id. is_same_id id x) (led_among events from events) h in
      let e = map_in (λ (e : NamedEvent). e.id) (filter (is_led_from events from) events) one.1 in
      let is = filter_in (is_led_from events from) events e.1 in
      let first = any_in (λ first. is_edge_between first e.0) (events_named events from) is.1 in
      let same : is_same_id e.0.id x ≡ true = subst (λ id. is_same_id id x ≡ true) (sym e.2) one.2 in
      in_any (λ first. list_any (is_edge_between first) (events_named events x)) first.1
      (in_any (is_edge_between first.0) (in_filter (λ (y : NamedEvent). is_same_id y.id x) is.0 same) first.2)

  named_back : leads_to events from x ≡ true → is_among (led_among events from events) x ≡ true
  named_back h =
      let first = any_in (λ first. list_any (is_edge_between first) (events_named events x)) (events_named events from)
      h in
      let second = any_in (is_edge_between first.0) (events_named events x) first.2 in
      let is = filter_in (λ (y : NamedEvent). is_same_id y.id x) events second.1 in
      in_any (λ id. is_same_id id x)
      (in_map (λ (e : NamedEvent). e.id)
      (in_filter (is_led_from events from) is.0
      (in_any (λ one. is_edge_between one second.0) first.1 second.2)))
      is.1

  -- the name is one of those to which an edge leads exactly where an edge leads to it
  pub among_led : is_among (led_among events from events) x ≡ leads_to events from x
  among_led = same_truth (is_among (led_among events from events) x) (leads_to events from x) named_forth named_back
