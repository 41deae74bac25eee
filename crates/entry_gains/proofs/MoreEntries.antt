-- What the slots keep after one entry more, and that a next entry gains what its slots keep.
use Rattle.std.proofs.Common.{◌≡◌, ℕ, suc, ◌+◌, ◌<◌, ◌≤◌, false, List, [], ◌∷◌, ◌++◌, length, append-nil, append_assoc}
use Rattle.std.proofs.Common.{refl, ap, sym, ◌∙◌, arith, Option, Some, None}
use Rattle.std.specs.List.{AllByRecursion, fold, zip}
use Rattle.std.proofs.lemmas.List.{length-map}
use Rattle.std.proofs.lemmas.Bool.{lt-ltb}
use Rattle.rma_types.specs.Actions.{synchronisation_of}
use Rattle.call_rules.specs.Pieces.{numbers_from}
use Rattle.board_rules.specs.Edges.{Event, events_after, events_of, is_edge}
use Rattle.board_rules.specs.Entries.{Row}
use Rattle.board_rules.specs.Questions.{question}
use Rattle.kept_rows.specs.Gifts.{Front, Given, gained_by, next_event, rows_given}
use Rattle.kept_rows.proofs.GiftLaws.{rows_more}
use Rattle.entry_gains.specs.Given.{do_meet, fills, is_filled_by, read_slot}
use Rattle.entry_gains.specs.Kept.{gained_at, gained_from, gathered, gift_if, kept_at, pairs_of}
use Rattle.entry_gains.specs.Slots.{joined}
use Rattle.entry_gains.specs.declared.slots.Slot.{Slot}
use Rattle.entry_gains.proofs.Gathered.{gathered_alike, gathered_any, gathered_more, gathered_none, gathers_edges}
use Rattle.entry_gains.proofs.MeetEdges.{edge_meets, right_of}

-- the event of a row after others
abbrev event_at : ℕ → ℕ → List Row → Row → Event
event_at ranks place before row = record { place = place; step = row.step; asked = question ranks before row }

events_more : (ranks place : ℕ) (before rows : List Row) (row : Row) →
    events_after ranks place before (rows ++ row ∷ [])
    ≡ events_after ranks place before rows ++ event_at ranks (place + length rows) (before ++ rows) row ∷ []
events_more ranks place before [] row =
    let here : place ≡ place + length {A = Row} [] = omega arith in
    ap (λ n. event_at ranks n before row ∷ []) here ∙ ap (λ rows. event_at ranks (place + length {A =
    Row} []) rows row ∷ []) (sym (append-nil before))
events_more ranks place before (first ∷ rows) row =
    let there : place + 1 + length rows ≡ place + length (first ∷ rows) = omega arith in
    ap (λ events. event_at ranks place before first ∷ events)
    (events_more ranks (place + 1) (before ++ first ∷ []) rows row
    ∙ (ap (λ n. events_after ranks (place + 1)
    (before ++ first ∷ []) rows ++ event_at ranks n ((before ++ first ∷ []) ++ rows) row ∷ []) there
    ∙ ap (λ all. events_after ranks (place + 1)
    (before ++ first ∷ []) rows ++ event_at ranks (place + length (first ∷ rows)) all row ∷ [])
    (append_assoc before (first ∷ []) rows)))

zip_more : {X Y : Type 0} (xs : List X) (ys : List Y) (x : X) (y : Y) → length xs ≡ length ys →
    zip (xs ++ x ∷ []) (ys ++ y ∷ []) ≡ zip xs ys ++ (x, y) ∷ []
zip_more [] [] x y e = refl
zip_more [] (z ∷ ys) x y e = absurd (omega arith)
zip_more (z ∷ xs) [] x y e = absurd (omega arith)
zip_more (z ∷ xs) (w ∷ ys) x y e = ap (λ rest. (z, w) ∷ rest) (zip_more xs ys x y (omega arith))

length_events : (ranks place : ℕ) (before rows : List Row) → length (events_after ranks place before rows) ≡ length rows
length_events ranks place before [] = refl
length_events ranks place before (row ∷ rows) = ap suc (length_events ranks (place + 1) (before ++ row ∷ []) rows)

pairs_more : (ranks : ℕ) (entries : List Given) (one : Given) →
    pairs_of ranks (entries ++ one ∷ []) ≡ pairs_of ranks entries ++ (
      next_event ranks (rows_given entries) one.row,
      one,
    ) ∷ []
pairs_more ranks entries one =
    let rows : List Row = rows_given entries in
    let length_rows : length (rows_given entries) ≡ length entries = length-map entries (λ (one : Given). one.row) in
    let long : length (events_of ranks (rows_given entries)) ≡ length entries =
    length_events ranks 0 [] (rows_given entries) ∙ length_rows in
    let place : 0 + length (rows_given entries) ≡ length (rows_given entries) = omega arith in
    ap (λ rows. zip (events_of ranks rows) (entries ++ one ∷ [])) (rows_more entries one)
    ∙ (ap (λ events. zip events (entries ++ one ∷ [])) (events_more ranks 0 [] (rows_given entries) one.row)
    ∙ (ap (λ n. zip (events_of ranks (rows_given entries) ++ event_at ranks n (rows_given entries) one.row ∷ [])
    (entries ++ one ∷ [])) place
    ∙ zip_more (events_of ranks (rows_given entries)) entries (next_event ranks (rows_given entries) one.row) one long))

-- what a slot keeps after one entry more
pub kept_more : (ranks : ℕ) (entries : List Given) (one : Given) (slot : Slot) →
    kept_at ranks (entries ++ one ∷ []) slot
    ≡ joined (kept_at ranks entries slot) (gift_if (fills (next_event ranks (rows_given entries) one.row) slot) one)
unfolding kept_at
kept_more ranks entries one slot =
    ap (gathered (λ event. fills event slot)) (pairs_more ranks entries one)
    ∙ gathered_more (λ event. fills event slot) (pairs_of ranks entries)
    (next_event ranks (rows_given entries) one.row, one)

-- ---- what is gained

meets_all : (ranks place : ℕ) (before rows : List Row) (entries : List Given) (next : Event) →
    next.asked.ranks ≡ ranks → ranks ≤ 16 → next.asked.rank < 16 → place + length rows ≤ next.place →
    right_of next.asked.ranks (synchronisation_of next.asked.call) ≡ false →
    AllByRecursion (λ (row : Row). row.rank < 16) rows →
    AllByRecursion (λ (one : Event × Given). is_edge one.0 next
    ≡ do_meet one.0 next) (zip (events_after ranks place before rows) entries)
meets_all ranks place before [] entries next same few rank past right all = tt
meets_all ranks place before (row ∷ rows) [] next same few rank past right all = tt
meets_all ranks place before (row ∷ rows) (one ∷ entries) next same few rank past right all = (
  edge_meets (event_at ranks place before row) next (record {
    from = all.0;
    to = rank;
    few = omega arith;
    all =
        sym same;
    later = lt-ltb place next.place (omega arith);
  }) right,
  meets_all ranks (place + 1) (before ++ row ∷ []) rows entries next same few rank (omega arith) right all.1,
)

fold_alike : (f g : ℕ → Option Front) → ((k : ℕ) → f k ≡ g k) → (start : Option Front) (ks : List ℕ) →
    fold (λ all k. joined all (f k)) start ks ≡ fold (λ all k. joined all (g k)) start ks
fold_alike f g same start [] = refl
fold_alike f g same start (k ∷ ks) = ap (λ front. fold (λ all k. joined all (f k)) (joined start front) ks) (same k)
    ∙ fold_alike f g same (joined start (g k)) ks

-- a next entry gains what the slots keep from which it gains
pub gained_is : (ranks : ℕ) (entries : List Given) (row : Row) → ranks ≤ 16 → row.rank < 16 →
    right_of ranks (synchronisation_of row.call) ≡ false →
    AllByRecursion (λ (row : Row). row.rank < 16) (rows_given entries) →
    gained_by ranks entries row ≡ gained_from (kept_at ranks entries)
    (read_slot (question ranks (rows_given entries) row) row.step)
unfolding kept_at do_meet gained_from
gained_is ranks entries row few rank right all =
    let next : Event = next_event ranks (rows_given entries) row in
    gathers_edges (next_event ranks (rows_given entries) row) (pairs_of ranks entries)
    ∙ (gathered_alike (λ from. is_edge from (next_event ranks (rows_given entries) row))
    (λ from. do_meet from (next_event ranks (rows_given entries) row)) (pairs_of ranks entries)
    (meets_all ranks 0 [] (rows_given entries) entries (next_event ranks (rows_given entries) row) refl few rank
    (omega arith) right all)
    ∙ (gathered_any (λ at from. is_filled_by from (read_slot (question ranks (rows_given entries) row) row.step at))
    (numbers_from 0 32) (pairs_of ranks entries)
    ∙ fold_alike (λ at. gathered (λ from. is_filled_by from
    (read_slot (question ranks (rows_given entries) row) row.step at)) (pairs_of ranks entries))
    (λ at. gained_at (kept_at ranks entries) (read_slot (question ranks (rows_given entries) row) row.step at))
    (λ at. one (read_slot (question ranks (rows_given entries) row) row.step at)) None (numbers_from 0 32)))
  where
    one : (slot : Option Slot) → gathered (λ from. is_filled_by from slot) (pairs_of ranks entries)
        ≡ gained_at (kept_at ranks entries) slot
    one None = gathered_none (pairs_of ranks entries)
    one (Some slot) = refl
