-- What the next entry gains, where one entry alone gives something.
use Rattle.std.proofs.Common.{◌≡◌, ℕ, Bool, true, false, List, [], ◌∷◌, ◌++◌, Option, Some, None, refl, ap, sym, ◌∙◌}
use Rattle.std.specs.Prelude.{is_some, map, replicate, if◌then◌else◌, ◌&&◌, ◌||◌}
use Rattle.std.specs.List.{flat_map, list_any, zip}
use Rattle.std.specs.Option.{option_map, option_map_or}
use Rattle.rma_types.specs.declared.accesses.Id.{Id}
use Rattle.board_rules.specs.Edges.{Event, events_of, is_edge}
use Rattle.board_rules.specs.Entries.{Row}
use Rattle.kept_rows.specs.Gifts.{Front, Given, gained_by, gained_of, gift_to, next_event, rows_given}
use Rattle.kept_rows.specs.KeptRowLaws.{kept_given}
use Rattle.kept_rows.proofs.KeptGains.{gains_kept}
use Rattle.order_rules.specs.Before.{is_same_id}
use Rattle.every_point.specs.Edges.{Seen, given_seen, mark_of}

pub some_mapped : {X Y : Type 0} (f : X → Y) (o : Option X) → is_some (option_map f o) ≡ is_some o
some_mapped f None = refl
some_mapped f (Some x) = refl

-- the entry with its call as it is
raw : Id → Seen → Given
raw from s = record { row = s.row; gift = mark_of from s.entry.id }

kept_raw : (from : Id) (seen : List Seen) → map (given_seen from) seen ≡ map kept_given (map (raw from) seen)
unfolding raw
kept_raw from [] = refl
kept_raw from (s ∷ rest) = ap (λ l. given_seen from s ∷ l) (kept_raw from rest)

rows_raw : (from : Id) (seen : List Seen) → rows_given (map (raw from) seen) ≡ map (λ (s : Seen). s.row) seen
unfolding raw
rows_raw from [] = refl
rows_raw from (s ∷ rest) = ap (λ l. s.row ∷ l) (rows_raw from rest)

-- the entry is the one of this name, and an edge leads from it to the event
abbrev pub leads_marked : Id → Event → Seen → Bool
leads_marked from next s = is_same_id s.entry.id from && is_edge s.entry.event next

one_gift : (same leads : Bool) (front : Front) (rest : List Front) →
    is_some (gained_of
    ((if leads then option_map_or (λ f. f ∷ []) (if same then Some front else None) [] else []) ++ rest))
    ≡ ((same && leads) || is_some (gained_of rest))
one_gift true true front rest = refl
one_gift true false front rest = refl
one_gift false true front rest = refl
one_gift false false front rest = refl

some_given : (from : Id) (next : Event) (seen : List Seen) →
    is_some (gained_of (flat_map (gift_to next)
    (zip (map (λ (s : Seen). s.entry.event) seen) (map (raw from) seen))))
    ≡ list_any (leads_marked from next) seen
unfolding raw
some_given from next [] = refl
some_given from next (s ∷ rest) =
    one_gift (is_same_id s.entry.id from) (is_edge s.entry.event next) (Some (replicate 16 0))
    (flat_map (gift_to next) (zip (map (λ (t : Seen). t.entry.event) rest) (map (raw from) rest)))
    ∙ ap (λ b. leads_marked from next s || b) (some_given from next rest)

-- the next entry gains something exactly where an edge leads to it from the entry of this name
pub gained_marked : (ranks : ℕ) (from : Id) (seen : List Seen) (row : Row) →
    map (λ (s : Seen). s.entry.event) seen ≡ events_of ranks (map (λ (s : Seen). s.row) seen) →
    is_some (gained_by ranks (map (given_seen from) seen) row)
    ≡ list_any (leads_marked from (next_event ranks (map (λ (s : Seen). s.row) seen) row)) seen
gained_marked ranks from seen row events =
    ap (λ l. is_some (gained_by ranks l row)) (kept_raw from seen)
    ∙ ap is_some (gains_kept ranks (map (raw from) seen) row)
    ∙ ap (λ rows. is_some (gained_of (flat_map (gift_to (next_event ranks rows row))
    (zip (events_of ranks rows) (map (raw from) seen))))) (rows_raw from seen)
    ∙ ap (λ l. is_some (gained_of (flat_map (gift_to (next_event ranks (map (λ (s : Seen). s.row) seen) row))
    (zip l (map (raw from) seen))))) (sym events)
    ∙ some_given from (next_event ranks (map (λ (s : Seen). s.row) seen) row) seen
