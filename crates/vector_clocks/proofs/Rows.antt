-- The rows and the events of a run by their places.
use Rattle.std.proofs.Common.{◌≡◌, ℕ, zero, suc, ◌+◌, ◌<◌, List, [], ◌∷◌, ◌++◌, length, Some, refl, ap, sym, subst, ◌∙◌}
use Rattle.std.proofs.Common.{arith, append_assoc}
use Rattle.std.specs.Prelude.{map, take, slice_get}
use Rattle.std.specs.List.{flat_map, zip}
use Rattle.std.proofs.lemmas.List.{append-nil}
use Rattle.list_laws.proofs.Each.{AllFrom}
use Rattle.list_laws.proofs.Members.{In, here, there}
use Rattle.rma_types.specs.declared.scripts.Script.{Script}
use Rattle.rma_record.specs.declared.runs.Run.{Run}
use Rattle.board_rules.specs.Edges.{Event, events_after}
use Rattle.board_rules.specs.Entries.{Row}
use Rattle.board_rules.specs.Questions.{question}
use Rattle.lawful_runs.specs.Logs.{Named, row_of, rows_of}
use Rattle.lawful_runs.proofs.LogLaws.{row_is, IsEntryOf}
use Rattle.order_rules.specs.Before.{NamedEvent, named_event}
use Rattle.order_rules.proofs.EventLaws.{IsEventAt}

abbrev pub RowAt : (script : Script) (run : Run) → ℕ → Named → List Row → ℕ → Type 0
RowAt script run place x rows k = (e : IsEntryOf script run place x) ×
    (slice_get rows k ≡ Some (record { rank = x.id.rank; number = e.number; call = e.call; step = e.step }))

pub row_at : (script : Script) (run : Run) (first : ℕ) (es : List Named) → AllFrom (IsEntryOf script run) first es →
    (k : ℕ) (x : Named) → slice_get es k ≡ Some x →
    (place : ℕ) × (place ≡ first + k) × RowAt script run place x (flat_map (row_of script) es) k
unfolding AllFrom
row_at script run first [] all k x got = absurd (cc got)
row_at script run first (y ∷ es) all zero x got =
    let same : y ≡ x = cc got in
    let e : IsEntryOf script run first x = subst (IsEntryOf script run first) same all.0 in
    let one : row_of script y ≡ record { rank = x.id.rank; number = e.number; call = e.call; step = e.step } ∷ [] =
    ap (row_of script) same ∙ row_is script run first x e in
    (first, omega arith, (e, ap (λ rows. slice_get (rows ++ flat_map (row_of script) es) 0) one))
row_at script run first (y ∷ es) all (suc k) x got =
    let rest = row_at script run (first + 1) es all.1 k x got in
    let one = row_is script run first y all.0 in (
      rest.0,
      omega (arith, rest.1),
      (
        rest.2.0,
        ap (λ rows. slice_get (rows ++ flat_map (row_of script) es) (suc k)) one ∙ rest.2.1,
      ),
    )

pub event_at_row : (ranks place : ℕ) (before rows : List Row) (k : ℕ) (row : Row) → slice_get rows k ≡ Some row →
    slice_get (events_after ranks place before rows) k
    ≡ Some (record { place = place + k; step = row.step; asked = question ranks (before ++ take k rows) row })
event_at_row ranks place before [] k row got = absurd (cc got)
event_at_row ranks place before (x ∷ rows) zero row got =
    let same : x ≡ row = cc got in
    let at : place ≡ place + 0 = omega arith in
    let front : before ≡ before ++ [] = sym (append-nil before) in
    λ i. Some (record { place = at i; step = (same i).step; asked = question ranks (front i) (same i) })
event_at_row ranks place before (x ∷ rows) (suc k) row got =
    let at : place + 1 + k ≡ place + suc k = omega arith in
    let front : (before ++ x ∷ []) ++ take k rows ≡ before ++ x ∷ take k rows =
    append_assoc before (x ∷ []) (take k rows) in
    event_at_row ranks (place + 1) (before ++ x ∷ []) rows k row got
    ∙ (λ i. Some (record { place = at i; step = row.step; asked = question ranks (front i) row }))

pub zipped_at : (es : List Named) (events : List Event) (k : ℕ) (x : Named) (event : Event) →
    slice_get es k ≡ Some x → slice_get events k ≡ Some event →
    slice_get (map named_event (zip es events)) k ≡ Some (record { id = x.id; event = event })
zipped_at [] events k x event of_x of_event = absurd (cc of_x)
zipped_at (y ∷ es) [] k x event of_x of_event = absurd (cc of_event)
zipped_at (y ∷ es) (other ∷ events) zero x event of_x of_event =
    let one : y ≡ x = cc of_x in
    let two : other ≡ event = cc of_event in
    λ i. Some (record { id = (one i).id; event = two i })
zipped_at (y ∷ es) (other ∷ events) (suc k) x event of_x of_event = zipped_at es events k x event of_x of_event

pub events_snoc : (ranks place : ℕ) (before rows : List Row) (row : Row) →
    events_after ranks place before (rows ++ row ∷ []) ≡ events_after ranks place before rows
    ++ record { place = place + length rows; step = row.step; asked = question ranks (before ++ rows) row } ∷ []
events_snoc ranks place before [] row =
    let at : place ≡ place + 0 = omega arith in
    let front : before ≡ before ++ [] = sym (append-nil before) in
    λ i. record { place = at i; step = row.step; asked = question ranks (front i) row } ∷ []
events_snoc ranks place before (x ∷ rows) row =
    let at : place + 1 + length rows ≡ place + suc (length rows) = omega arith in
    let front : (before ++ x ∷ []) ++ rows ≡ before ++ x ∷ rows = append_assoc before (x ∷ []) rows in
    ap (λ l. record { place = place; step = x.step; asked = question ranks before x } ∷ l)
    (events_snoc ranks (place + 1) (before ++ x ∷ []) rows row
    ∙ (λ i. events_after ranks (place + 1) (before ++ x ∷ []) rows
    ++ record { place = at i; step = row.step; asked = question ranks (front i) row } ∷ []))

pub taken_long : {X : Type 0} (xs : List X) (k : ℕ) (x : X) → slice_get xs k ≡ Some x → length (take k xs) ≡ k
taken_long [] k x got = absurd (cc got)
taken_long (y ∷ xs) zero x got = refl
taken_long (y ∷ xs) (suc k) x got = ap suc (taken_long xs k x got)

-- ---- an earlier entry of the rank stands before

pub place_taken : (script : Script) (run : Run) (at : ℕ) (xs : List NamedEvent) (n : ℕ) →
    AllFrom (IsEventAt script run (rows_of script run)) at xs → {z : NamedEvent} → In z (take n xs) →
    In z xs × (z.event.place < at + n)
unfolding AllFrom
place_taken script run at [] n all m = empty_taken n m
  where
    empty_taken : {z : NamedEvent} (n : ℕ) → In z (take n []) → In z [] × (z.event.place < at + n)
    empty_taken zero m = elim m [ ]
    empty_taken (suc n) m = elim m [ ]
place_taken script run at (x ∷ xs) zero all m = elim m [ ]
place_taken script run at (x ∷ xs) (suc n) all here = let first : x.event.place ≡ at =
    ap (λ (e : Event). e.place) all.0.event in (here, omega (arith, first))
place_taken script run at (x ∷ xs) (suc n) all (there m) = let rest = place_taken script run (at + 1) xs n all.1 m in
    (there rest.0, omega (arith, rest.1))
