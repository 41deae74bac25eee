-- One entry more is replayed, and all of them.
use Rattle.std.proofs.Common.{◌≡◌, ℕ, suc, ◌+◌, ◌<◌, ◌≤◌, List, [], ◌∷◌, ◌++◌, length, Option, Some, refl, ap, sym}
use Rattle.std.proofs.Common.{subst, ◌∙◌, arith}
use Rattle.std.specs.Prelude.{map, take, slice_get, slice_set}
use Rattle.std.specs.Option.{option_map}
use Rattle.std.proofs.lemmas.List.{length-map, map-append, take_all}
use Rattle.list_laws.proofs.Members.{In, in_map}
use Rattle.rma_types.specs.declared.calls.Call.{Call}
use Rattle.rma_types.specs.declared.schedules.Delay.{Delay}
use Rattle.rma_types.specs.declared.scripts.Script.{Script}
use Rattle.rma_record.specs.declared.runs.Run.{Run}
use Rattle.board_rules.specs.Edges.{events_of}
use Rattle.board_rules.specs.Entries.{Row}
use Rattle.kept_rows.specs.Gifts.{gained_by, next_event}
use Rattle.kept_rows.specs.KeptCalls.{kept_row}
use Rattle.entry_gains.specs.ByPlace.{KeepsInOrder}
use Rattle.entry_gains.specs.declared.by_place.GainsByPlace.{GainsByPlace}
use Rattle.lawful_runs.specs.LawfulRun.{IsLawful}
use Rattle.lawful_runs.specs.Logs.{calls_of, entries_of, rows_of}
use Rattle.order_rules.specs.Before.{NamedEvent, IsOrder, events_in}
use Rattle.order_laws.proofs.Events.{events_placed, get_in}
use Rattle.vector_clocks.specs.Numbers.{raised, counts_of}
use Rattle.vector_clocks.specs.Marks.{marks_of, last_counts, before_in, AreSorted, IsSorted}
use Rattle.vector_clocks.specs.Places.{placed_item}
use Rattle.vector_clocks.specs.Rows.{row_placed}
use Rattle.vector_clocks.specs.Replays.{IsPut, Told, id_told, given_told, marks_told, Replayed}
use Rattle.vector_clocks.specs.declared.marks.Mark.{Mark}
use Rattle.vector_clocks.specs.declared.places.Placed.{Placed}
use Rattle.vector_clocks.proofs.Laws.{order_of_marks}
use Rattle.vector_clocks.proofs.Lists.{take_at}
use Rattle.vector_clocks.proofs.Nexts.{told_next, next_snoc, one_next, IsLast}
use Rattle.vector_clocks.proofs.Sorted.{last_is, sorted_marks}
use Rattle.vector_clocks.proofs.Placings.{event_of_entry, events_more, row_of_entry, rows_before}
use Rattle.vector_clocks.proofs.Rows.{place_taken}
use Rattle.vector_clocks.proofs.Steps.{stands_earlier, marks_more}

module _ (script : Script) (delay : Delay) (run : Run) (lawful : IsLawful script delay run) (one : Placed)
    (call : Call) (count : ℕ) (gains : GainsByPlace) (clocks : List (List Mark))
    (stands : slice_get (entries_of run) count ≡ Some (placed_item one))
    (got : slice_get (calls_of script one.id.rank) one.call ≡ Some call)
    (old : Replayed script run count gains clocks) where
  row : Row
  row = row_placed one call

  of_rows : slice_get (rows_of script run) count ≡ Some row
  unfolding row
  of_rows = row_of_entry script delay run lawful one call count (map (λ (t : Told). t.row) old.told) stands got old.rows

  entry : NamedEvent
  entry = record { id = one.id; event = next_event script.ranks (map (λ (t : Told). t.row) old.told) row }

  of_events : slice_get (events_in script run) count ≡ Some entry
  unfolding row entry
  of_events =
      event_of_entry script delay run lawful one call count (map (λ (t : Told). t.row) old.told) stands got old.rows

  up : (s : Told) → In s old.told → (id_told s).rank ≡ one.id.rank → (id_told s).index < one.id.index
  unfolding entry
  up s m same =
      let taken : In s.stamp.entry (take count (events_in script run)) =
      subst (λ l. In s.stamp.entry l) old.events (in_map (λ (t : Told). t.stamp.entry) m) in
      let earlier = place_taken script run 0 (events_in script run) count (events_placed script delay run lawful)
      taken in
      let new : In entry (events_in script run) = get_in (events_in script run) count entry of_events in
      let long = rows_before script delay run lawful one call count (map (λ (t : Told). t.row) old.told) stands got
      old.rows in
      stands_earlier script delay run lawful s.stamp.entry entry earlier.0 new same (omega (arith, earlier.1, long))

  module _ (prev : List ℕ) (gained : Option (List ℕ)) (is_last : prev ≡ last_counts (marks_of clocks one.id.rank))
      (wide : one.id.rank < length prev)
      (within : one.id.rank < length clocks)
      (gains_it : option_map Some gained ≡ gained_by script.ranks (map given_told old.told) row) (after : GainsByPlace)
      (kept : KeepsInOrder script.ranks (map given_told old.told ++ record {
        row = kept_row row;
        gift = Some (Some (raised prev one.id.rank one.id.index));
      } ∷ []) after) where
    new : Told
    new = told_next script.ranks old.told one.id row prev gained

    clocks_more : List (List Mark)
    clocks_more = slice_set clocks one.id.rank
        (marks_of clocks one.id.rank ++ record {
          index = one.id.index;
          counts =
              counts_of gained (raised prev one.id.rank one.id.index);
        } ∷ [])

    last_told : prev ≡ last_counts (marks_told one.id.rank old.told)
    last_told = is_last ∙ ap last_counts (old.marks one.id.rank)

    replayed : Replayed script run (count + 1) after clocks_more
    unfolding new told_next clocks_more entry
    replayed =
        let next : count + 1 ≡ suc count = omega arith in
        record {
          told = old.told ++ new ∷ [];
          next = next_snoc [] old.told new old.next
              (one_next script.ranks old.told one.id row prev gained old.next old.asked wide
              (subst (λ p. IsLast old.told one.id p) (sym last_told) (last_is old.told one.id old.next up))
              gains_it);
          events = map-append (λ (t : Told). t.stamp.entry) old.told (new ∷ []) ∙ ap (λ l. l ++ entry ∷ []) old.events
              ∙ sym (take_at (events_in script run) count entry of_events)
              ∙ ap (λ n. take n (events_in script run)) (sym next);
          asked = map-append (λ (t : Told). t.stamp.entry.event) old.told (new ∷ [])
              ∙ ap (λ l. l ++ entry.event ∷ []) old.asked
              ∙ events_more script.ranks (map (λ (t : Told). t.row) old.told) row
              ∙ ap (events_of script.ranks) (sym (map-append (λ (t : Told). t.row) old.told (new ∷ [])));
          rows = map-append (λ (t : Told). t.row) old.told (new ∷ []) ∙ ap (λ l. l ++ row ∷ []) old.rows
              ∙ sym (take_at (rows_of script run) count row of_rows) ∙ ap (λ n. take n (rows_of script run)) (sym next);
          kept = subst (λ l. KeepsInOrder script.ranks l after) (sym (map-append given_told old.told (new ∷ []))) kept;
          marks = marks_more clocks old.told new old.marks within;
        }

-- nothing is replayed at first
pub none_yet : (script : Script) (run : Run) (gains : GainsByPlace) (clocks : List (List Mark)) →
    KeepsInOrder script.ranks [] gains → ((rank : ℕ) → marks_of clocks rank ≡ []) → Replayed script run 0 gains clocks
none_yet script run gains clocks kept none =
    record { told = []; next = tt; events = refl; asked = refl; rows = refl; kept = kept; marks = none }

-- when all are replayed, the clocks decide the order
pub all_replayed : (script : Script) (delay : Delay) (run : Run) → IsLawful script delay run →
    (count : ℕ) (gains : GainsByPlace) (clocks : List (List Mark)) →
    length (events_in script run) ≤ count → Replayed script run count gains clocks →
    IsOrder script run (before_in clocks)
all_replayed script delay run lawful count gains clocks whole all =
    order_of_marks script delay run lawful all.told all.next
    (all.events ∙ take_all count (events_in script run) whole) clocks all.marks

pub sorted_clocks : (script : Script) (run : Run) (count : ℕ) (gains : GainsByPlace) (clocks : List (List Mark)) →
    Replayed script run count gains clocks → AreSorted clocks
sorted_clocks script run count gains clocks all rank =
    subst IsSorted (sym (all.marks rank)) (sorted_marks rank [] all.told all.next)

-- the next entry is replayed: the numbers of its rank before it, with its own item, are given; what is gained joins
-- them
pub put_more : (script : Script) (delay : Delay) (run : Run) → IsLawful script delay run →
    (one : Placed) (call : Call) (count : ℕ) (gains after : GainsByPlace) (clocks later : List (List Mark)) →
    slice_get (entries_of run) count ≡ Some (placed_item one) → slice_get (calls_of script one.id.rank) one.call
    ≡ Some call → (old : Replayed script run count gains clocks) →
    IsPut script.ranks one call (map given_told old.told) clocks after later →
    Replayed script run (count + 1) after later
unfolding row clocks_more
put_more script delay run lawful one call count gains after clocks later stands got old put =
    subst (λ c. Replayed script run (count + 1) after c) (sym put.marks)
    (replayed script delay run lawful one call count gains clocks stands got old put.prev put.gained put.last
    put.wide put.within put.gains_it after put.kept)

-- so many entries were given
pub so_many : (script : Script) (delay : Delay) (run : Run) → IsLawful script delay run →
    (one : Placed) (call : Call) (count : ℕ) (gains : GainsByPlace) (clocks : List (List Mark)) →
    slice_get (entries_of run) count ≡ Some (placed_item one) → slice_get (calls_of script one.id.rank) one.call
    ≡ Some call → (old : Replayed script run count gains clocks) → length (map given_told old.told) ≡ count
so_many script delay run lawful one call count gains clocks stands got old =
    length-map old.told given_told ∙ sym (length-map old.told (λ (t : Told). t.row))
    ∙ rows_before script delay run lawful one call count (map (λ (t : Told). t.row) old.told) stands got old.rows
