-- The entries of a run at their places, each with its row and its event.
use Rattle.std.proofs.Common.{◌≡◌, ℕ, zero, suc, ◌+◌, ◌<◌, ◌≤◌, List, [], ◌∷◌, ◌++◌, length, Some, refl, ap, sym, ◌∙◌}
use Rattle.std.proofs.Common.{arith}
use Rattle.std.specs.Prelude.{map, slice_get, slice_index_or, take}
use Rattle.std.specs.List.{zip}
use Rattle.rma_record.specs.declared.items.Item.TheVariants.{Entry}
use Rattle.rma_types.specs.declared.calls.Call.{Call}
use Rattle.rma_types.specs.declared.schedules.Delay.{Delay}
use Rattle.rma_types.specs.declared.scripts.Script.{Script}
use Rattle.rma_record.specs.declared.runs.Run.{Run}
use Rattle.lawful_runs.specs.LawfulRun.{IsLawful}
use Rattle.board_rules.specs.Edges.{Event, events_of}
use Rattle.board_rules.specs.Entries.{Row}
use Rattle.board_rules.specs.Questions.{question}
use Rattle.kept_rows.specs.Gifts.{next_event}
use Rattle.lawful_runs.specs.Logs.{Named, calls_of, entries_of, rows_of}
use Rattle.order_rules.specs.Before.{events_in, named_event}
use Rattle.order_laws.proofs.Events.{entries_placed}
use Rattle.vector_clocks.specs.Places.{placed_item}
use Rattle.vector_clocks.specs.Rows.{row_placed}
use Rattle.vector_clocks.specs.declared.places.Placed.{Placed}
use Rattle.vector_clocks.proofs.Rows.{RowAt, row_at, event_at_row, zipped_at, events_snoc, taken_long}

placed_at : (order : List Placed) (k : ℕ) (d : Placed) → k < length order → slice_get (map placed_item order) k
    ≡ Some (placed_item (slice_index_or order k d))
placed_at [] k d within = absurd (omega arith)
placed_at (one ∷ order) zero d within = refl
placed_at (one ∷ order) (suc k) d within = placed_at order k d (omega (arith, within))

-- it is the entry of the run at its place
pub entry_at_place : (run : Run) (order : List Placed) → map placed_item order ≡ entries_of run →
    (k : ℕ) (d : Placed) → k < length order → slice_get (entries_of run) k
    ≡ Some (placed_item (slice_index_or order k d))
entry_at_place run order is k d within = ap (λ l. slice_get l k) (sym is) ∙ placed_at order k d within

-- ---- all entries

pub zipped_long : (es : List Named) (events : List Event) → length (map named_event (zip es events)) ≤ length es
zipped_long [] events = omega arith
zipped_long (x ∷ es) [] = omega arith
zipped_long (x ∷ es) (event ∷ events) = let rest = zipped_long es events in omega (arith, rest)

-- ---- the row and the event of the entry at a place

row_here : (script : Script) (run : Run) (one : Placed) (call : Call) (count place : ℕ) →
    slice_get (calls_of script one.id.rank) one.call ≡ Some call →
    RowAt script run place (placed_item one) (rows_of script run) count → slice_get (rows_of script run) count
    ≡ Some (row_placed one call)
row_here script run one call count place got row =
    let item : Entry one.call one.place one.step ≡ Entry row.0.number place row.0.step = row.0.is in
    let number : row.0.number ≡ one.call = cc item in
    let step : row.0.step ≡ one.step = cc item in
    let calls : Some row.0.call ≡ Some call = sym row.0.of_rank ∙ ap (slice_get (calls_of script one.id.rank)) number
    ∙ got in
    let same : row.0.call ≡ call = cc calls in
    row.1 ∙ (λ i. Some (record { rank = one.id.rank; number = number i; call = same i; step = step i }))

-- of the entry at a place, where these are the rows before it
module _ (script : Script) (delay : Delay) (run : Run) (lawful : IsLawful script delay run) (one : Placed) (call : Call)
    (count : ℕ) (before : List Row)
    (stands : slice_get (entries_of run) count ≡ Some (placed_item one))
    (got : slice_get (calls_of script one.id.rank) one.call ≡ Some call)
    (rows : before ≡ take count (rows_of script run)) where
  pub row_of_entry : slice_get (rows_of script run) count ≡ Some (row_placed one call)
  row_of_entry =
      let at = row_at script run 0 (entries_of run) (entries_placed script run lawful.ranks lawful.board.entries)
      count (placed_item one) stands in
      row_here script run one call count at.0 got at.2

  -- so many rows are before it
  pub rows_before : length before ≡ count
  rows_before = ap length rows ∙ taken_long (rows_of script run) count (row_placed one call) row_of_entry

  pub event_of_entry : slice_get (events_in script run) count
      ≡ Some (record { id = one.id; event = next_event script.ranks before (row_placed one call) })
  event_of_entry =
      let event = event_at_row script.ranks 0 [] (rows_of script run) count (row_placed one call) row_of_entry in
      let zipped = zipped_at (entries_of run) (events_of script.ranks (rows_of script run)) count (placed_item one)
      (record {
        place = 0 + count;
        step = one.step;
        asked =
            question script.ranks (take count (rows_of script run)) (row_placed one call);
      }) stands event in
      let long = rows_before in
      let place : 0 + count ≡ length before = omega (arith, long) in
      zipped ∙ (λ i. Some (record {
        id = one.id;
        event =
            record {
              place = place i;
              step = one.step;
              asked = question script.ranks (sym rows i) (row_placed one call);
            };
      }))

-- the events with one more
pub events_more : (ranks : ℕ) (before : List Row) (row : Row) → events_of ranks before
    ++ next_event ranks before row ∷ [] ≡ events_of ranks (before ++ row ∷ [])
events_more ranks before row =
    let place : length before ≡ 0 + length before = omega arith in
    (λ i. events_of ranks before
    ++ record { place = place i; step = row.step; asked = question ranks before row } ∷ [])
    ∙ sym (events_snoc ranks 0 [] before row)
