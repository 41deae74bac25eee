-- The events of kept rows, and what a next entry gains after them.
use Rattle.std.proofs.Common.{◌≡◌, ℕ, ◌+◌, if◌then◌else◌, List, [], ◌∷◌, ◌++◌, map, refl, ap, sym, ◌∙◌}
use Rattle.std.specs.List.{flat_map, zip}
use Rattle.std.specs.Option.{option_map_or}
use Rattle.std.proofs.lemmas.List.{map-append, length-map}
use Rattle.rma_types.proofs.CallLaws.{call_kept_again}
use Rattle.board_rules.specs.Edges.{Event, events_after, events_of, is_edge}
use Rattle.board_rules.specs.Entries.{Row, Act, acts, window_of}
use Rattle.kept_rows.specs.Gifts.{Given, gained_by, gained_of, gift_to, next_event, rows_given}
use Rattle.kept_rows.specs.KeptCalls.{kept_row}
use Rattle.kept_rows.specs.KeptRowLaws.{kept_acts, kept_event, kept_given, kept_rows}
use Rattle.kept_rows.proofs.KeptActs.{acts_kept, window_kept, window_of_kept}
use Rattle.kept_rows.proofs.KeptEdges.{edge_from, edge_to}

events_after_kept : (ranks place : ℕ) (before rows : List Row) →
    events_after ranks place (kept_rows before) (kept_rows rows) ≡ map kept_event (events_after ranks place before rows)
events_after_kept ranks place before [] = refl
events_after_kept ranks place before (row ∷ rows) =
    let here : window_of (kept_rows before) (kept_row row) ≡ window_of before row =
    window_of_kept (kept_rows before) row ∙ window_kept before row in
    let joined : kept_rows before ++ kept_row row ∷ [] ≡ kept_rows (before ++ row ∷ []) =
    sym (map-append kept_row before (row ∷ [])) in
    let later : events_after ranks (place + 1) (kept_rows before ++ kept_row row ∷ []) (kept_rows rows)
    ≡ map kept_event (events_after ranks (place + 1) (before ++ row ∷ []) rows) =
    ap (λ xs. events_after ranks (place + 1) xs (kept_rows rows)) joined
    ∙ events_after_kept ranks (place + 1) (before ++ row ∷ []) rows in
    rw (here, acts_kept before, later) refl

pub events_kept : (ranks : ℕ) (rows : List Row) →
    events_of ranks (kept_rows rows) ≡ map kept_event (events_of ranks rows)
events_kept ranks rows = events_after_kept ranks 0 [] rows

pub acts_twice : (entries : List Act) → kept_acts (kept_acts entries) ≡ kept_acts entries
acts_twice [] = refl
acts_twice (act ∷ entries) = rw (call_kept_again act.row.call, acts_twice entries) refl

next_whole : (ranks : ℕ) (rows : List Row) (row : Row) →
    kept_event (next_event ranks (kept_rows rows) row) ≡ kept_event (next_event ranks rows row)
next_whole ranks rows row = rw (
  length-map rows kept_row,
  window_kept rows row,
  acts_kept rows,
  acts_twice (acts rows),
) refl

pub edge_next : (ranks : ℕ) (rows : List Row) (row : Row) (a : Event) →
    is_edge a (next_event ranks (kept_rows rows) row) ≡ is_edge a (next_event ranks rows row)
edge_next ranks rows row a =
    sym (edge_to a (next_event ranks (kept_rows rows) row))
    ∙ (ap (is_edge a) (next_whole ranks rows row) ∙ edge_to a (next_event ranks rows row))

gifts_kept : (kept next : Event) → ((a : Event) → is_edge a kept ≡ is_edge a next) →
    (events : List Event) (entries : List Given) →
    flat_map (gift_to kept) (zip (map kept_event events) (map kept_given entries))
    ≡ flat_map (gift_to next) (zip events entries)
gifts_kept kept next same [] entries = refl
gifts_kept kept next same (event ∷ events) [] = refl
gifts_kept kept next same (event ∷ events) (one ∷ entries) =
    let here : is_edge (kept_event event) kept ≡ is_edge event next = edge_from event kept ∙ same event in
    ap (λ b. (if b then option_map_or (λ front. front ∷ []) one.gift [] else []) ++ flat_map (gift_to kept)
    (zip (map kept_event events) (map kept_given entries))) here
    ∙ ap (λ fronts. (if is_edge event next then option_map_or (λ front. front ∷ []) one.gift [] else []) ++ fronts)
    (gifts_kept kept next same events entries)

rows_kept : (entries : List Given) → rows_given (map kept_given entries) ≡ kept_rows (rows_given entries)
rows_kept [] = refl
rows_kept (one ∷ entries) = ap (λ rows. kept_row one.row ∷ rows) (rows_kept entries)

pub gains_kept : (ranks : ℕ) (entries : List Given) (row : Row) →
    gained_by ranks (map kept_given entries) row ≡ gained_by ranks entries row
gains_kept ranks entries row =
    ap (λ rows. gained_of (flat_map (gift_to (next_event ranks rows row))
    (zip (events_of ranks rows) (map kept_given entries)))) (rows_kept entries)
    ∙ (ap (λ events. gained_of (flat_map (gift_to (next_event ranks (kept_rows (rows_given entries)) row))
    (zip events (map kept_given entries)))) (events_kept ranks (rows_given entries))
    ∙ ap gained_of (gifts_kept (next_event ranks (kept_rows (rows_given entries)) row)
    (next_event ranks (rows_given entries) row) (edge_next ranks (rows_given entries) row)
    (events_of ranks (rows_given entries)) entries))
