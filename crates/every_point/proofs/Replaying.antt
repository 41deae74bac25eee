-- One entry more comes, and all of them.
use Rattle.std.proofs.Common.{◌≡◌, ℕ, suc, ◌+◌, ◌<◌, Bool, List, [], ◌∷◌, ◌++◌, length, Some, refl, ap, sym}
use Rattle.std.proofs.Common.{subst, ◌∙◌, arith}
use Rattle.std.specs.Prelude.{is_some, map, take, slice_get, slice_index_or, if◌then◌else◌, ◌&&◌}
use Rattle.std.specs.List.{list_any}
use Rattle.std.proofs.lemmas.List.{length-map, map-append, take_all}
use Rattle.list_laws.proofs.Tests.{any_map}
use Rattle.rma_types.specs.declared.accesses.Id.{Id}
use Rattle.rma_types.specs.declared.calls.Call.{Call}
use Rattle.rma_types.specs.declared.schedules.Delay.{Delay}
use Rattle.rma_types.specs.declared.schedules.Delay.TheVariants.{Seeded}
use Rattle.rma_types.specs.declared.scripts.Script.{Script}
use Rattle.rma_record.specs.declared.runs.Run.{Run}
use Rattle.board_rules.specs.Edges.{events_of}
use Rattle.board_rules.specs.Entries.{Row}
use Rattle.kept_rows.specs.Gifts.{Given, gained_by, next_event}
use Rattle.entry_gains.specs.ByPlace.{IsComing, KeepsInOrder}
use Rattle.entry_gains.specs.declared.by_place.GainsByPlace.{GainsByPlace}
use Rattle.lawful_runs.specs.LawfulRun.{IsLawful}
use Rattle.lawful_runs.specs.Logs.{calls_of, entries_of, rows_of}
use Rattle.order_rules.specs.Before.{NamedEvent, events_in, is_edge_between, is_same_id}
use Rattle.vector_clocks.specs.Places.{placed_item}
use Rattle.vector_clocks.specs.Rows.{row_placed}
use Rattle.vector_clocks.specs.declared.places.Placed.{Placed}
use Rattle.rank_records.specs.Kept.{IsRecorded}
use Rattle.rank_records.specs.declared.kept.RunRecord.{RunRecord}
use Rattle.vector_clocks.proofs.Coming.{coming_at}
use Rattle.vector_clocks.proofs.Placings.{entry_at_place, event_of_entry, events_more, row_of_entry, rows_before}
use Rattle.vector_clocks.proofs.Placings.{zipped_long}
use Rattle.vector_clocks.proofs.Lists.{take_at}
use Rattle.every_point.specs.Edges.{IsPut, Replayed, Seen, given_seen, is_led_from, led_among}
use Rattle.every_point.proofs.Leads.{led_here, names_more}
use Rattle.every_point.proofs.Marked.{gained_marked}

module _ (script : Script) (delay : Delay) (run : Run) (lawful : IsLawful script delay run) (from : Id) (one : Placed)
    (call : Call) (count : ℕ) (gains : GainsByPlace) (led : List Id)
    (stands : slice_get (entries_of run) count ≡ Some (placed_item one))
    (got : slice_get (calls_of script one.id.rank) one.call ≡ Some call)
    (old : Replayed script run from count gains led) where
  abbrev row : Row
  row = row_placed one call

  abbrev before : List Row
  before = map (λ (s : Seen). s.row) old.seen

  of_rows : slice_get (rows_of script run) count ≡ Some row
  of_rows = row_of_entry script delay run lawful one call count before stands got old.rows

  abbrev entry : NamedEvent
  entry = record { id = one.id; event = next_event script.ranks before row }

  of_events : slice_get (events_in script run) count ≡ Some entry
  of_events = event_of_entry script delay run lawful one call count before stands got old.rows

  -- it gains something exactly where an edge leads to it from the entry of the name
  gains_are : (does_gain : Bool) → does_gain ≡ is_some (gained_by script.ranks (map (given_seen from) old.seen) row) →
      does_gain ≡ is_led_from (events_in script run) from entry
  gains_are does_gain is =
      is ∙ gained_marked script.ranks from old.seen row old.asked
      ∙ sym (any_map (λ (e : NamedEvent). is_same_id e.id from && is_edge_between e entry)
      (λ (s : Seen). s.entry) old.seen)
      ∙ ap (list_any (λ (e : NamedEvent). is_same_id e.id from && is_edge_between e entry)) old.events
      ∙ led_here script delay run lawful from count entry of_events

  abbrev new : Seen
  new = record { entry = entry; row = row }

  more : (does_gain : Bool) (after : GainsByPlace) →
      IsPut script.ranks from one call (map (given_seen from) old.seen) does_gain after →
      Replayed script run from (count + 1) after (led ++ (if does_gain then one.id ∷ [] else []))
  more does_gain after put =
      let next : count + 1 ≡ suc count = omega arith in
      let events = sym (take_at (events_in script run) count entry of_events)
      ∙ ap (λ n. take n (events_in script run)) (sym next) in
      record {
        seen = old.seen ++ new ∷ [];
        events = map-append (λ (s : Seen). s.entry) old.seen (new ∷ []) ∙ ap (λ l. l ++ entry ∷ []) old.events
            ∙ events;
        asked = map-append (λ (s : Seen). s.entry.event) old.seen (new ∷ [])
            ∙ ap (λ l. l ++ entry.event ∷ []) old.asked
            ∙ events_more script.ranks before row
            ∙ ap (events_of script.ranks) (sym (map-append (λ (s : Seen). s.row) old.seen (new ∷ [])));
        rows = map-append (λ (s : Seen). s.row) old.seen (new ∷ []) ∙ ap (λ l. l ++ row ∷ []) old.rows
            ∙ sym (take_at (rows_of script run) count row of_rows) ∙ ap (λ n. take n (rows_of script run)) (sym next);
        kept = subst (λ l. KeepsInOrder script.ranks l after) (sym (map-append (given_seen from) old.seen (new ∷ [])))
            put.kept;
        names = (λ i. old.names i ++ (if gains_are does_gain put.gained i then one.id ∷ [] else []))
            ∙ sym (names_more (λ (x : NamedEvent). x.id) (is_led_from (events_in script run) from)
            (take count (events_in script run)) entry)
            ∙ ap (led_among (events_in script run) from) events;
      }

-- nothing came at first
pub none_yet : (script : Script) (run : Run) (from : Id) (gains : GainsByPlace) (led : List Id) →
    KeepsInOrder script.ranks [] gains → led ≡ [] → Replayed script run from 0 gains led
none_yet script run from gains led kept none =
    subst (Replayed script run from 0 gains) (sym none)
    (record { seen = []; events = refl; asked = refl; rows = refl; kept = kept; names = refl })

-- the next entry came
pub put_at : (recorded : RunRecord) → IsRecorded recorded → (order : List Placed) →
    map placed_item order ≡ entries_of recorded.run.now → (from : Id) (k : ℕ) (d : Placed) → k < length order →
    (call : Call) →
    slice_get (calls_of recorded.script.now (slice_index_or order k d).id.rank) (slice_index_or order k d).call
    ≡ Some call → (gains after : GainsByPlace) (led later : List Id) (does_gain : Bool) →
    Replayed recorded.script.now recorded.run.now from k gains led →
    ((ranks : ℕ) (entries : List Given) → IsComing ranks entries (row_placed (slice_index_or order k d) call) →
    KeepsInOrder ranks entries gains → IsPut ranks from (slice_index_or order k d) call entries does_gain after) →
    later ≡ led ++ (if does_gain then (slice_index_or order k d).id ∷ [] else []) →
    Replayed recorded.script.now recorded.run.now from (k + 1) after later
put_at recorded is order placed from k d within call got gains after led later does_gain old put names =
    let stands = entry_at_place recorded.run.now order placed k d within in
    let rows_long = rows_before recorded.script.now Seeded recorded.run.now is.lawful (slice_index_or order k d) call k
    (map (λ (s : Seen). s.row) old.seen) stands got old.rows in
    let long = length-map old.seen (given_seen from) ∙ sym (length-map old.seen (λ (s : Seen). s.row)) ∙ rows_long in
    subst (Replayed recorded.script.now recorded.run.now from (k + 1) after) (sym names)
    (more recorded.script.now Seeded recorded.run.now is.lawful from (slice_index_or order k d) call k gains led
    stands got old does_gain after
    (put recorded.script.now.ranks (map (given_seen from) old.seen)
    (coming_at recorded is order placed k d within call got (map (given_seen from) old.seen) long) old.kept))

-- all entries came
pub all_led : (script : Script) (run : Run) (order : List Placed) → map placed_item order ≡ entries_of run →
    (from : Id) (gains : GainsByPlace) (led : List Id) → Replayed script run from (length order) gains led →
    led ≡ led_among (events_in script run) from (events_in script run)
all_led script run order is from gains led all =
    let long : length (map placed_item order) ≡ length order = length-map order placed_item in
    let same : length (entries_of run) ≡ length order = sym (ap length is) ∙ long in
    let few = zipped_long (entries_of run) (events_of script.ranks (rows_of script run)) in
    all.names ∙ ap (led_among (events_in script run) from)
    (take_all (length order) (events_in script run) (omega (arith, same, few)))
