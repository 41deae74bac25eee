-- What is known of each entry that is put at its place.
use Rattle.std.proofs.Common.{◌≡◌, ℕ, zero, suc, ◌+◌, ◌<◌, List, [], length, Some, refl, ap, sym, ◌∙◌}
use Rattle.std.proofs.Common.{arith}
use Rattle.std.specs.Prelude.{map, replicate, slice_get, slice_index_or}
use Rattle.std.proofs.lemmas.List.{length-map}
use Rattle.rma_types.specs.declared.calls.Call.{Call}
use Rattle.rma_types.specs.declared.schedules.Delay.{Delay}
use Rattle.rma_types.specs.declared.schedules.Delay.TheVariants.{Seeded}
use Rattle.rma_types.specs.declared.scripts.Script.{Script}
use Rattle.rma_record.specs.declared.runs.Run.{Run}
use Rattle.entry_gains.specs.ByPlace.{IsComing, KeepsInOrder}
use Rattle.entry_gains.specs.declared.by_place.GainsByPlace.{GainsByPlace}
use Rattle.lawful_runs.specs.LawfulRun.{IsLawful}
use Rattle.rank_records.specs.Kept.{IsRecorded}
use Rattle.rank_records.specs.declared.kept.RunRecord.{RunRecord}
use Rattle.board_rules.specs.Edges.{events_of}
use Rattle.kept_rows.specs.Gifts.{Given}
use Rattle.lawful_runs.specs.Logs.{calls_of, entries_of, rows_of}
use Rattle.order_rules.specs.Before.{IsOrder}
use Rattle.vector_clocks.specs.Places.{placed_item}
use Rattle.vector_clocks.specs.Rows.{row_placed}
use Rattle.vector_clocks.proofs.Coming.{coming_at}
use Rattle.vector_clocks.specs.declared.places.Placed.{Placed}
use Rattle.vector_clocks.proofs.Placings.{entry_at_place, zipped_long}
use Rattle.vector_clocks.specs.Marks.{marks_of, before_in}
use Rattle.vector_clocks.specs.Replays.{IsPut, Replayed, given_told}
use Rattle.vector_clocks.specs.declared.marks.Mark.{Mark}
use Rattle.vector_clocks.proofs.Replaying.{all_replayed, none_yet, put_more, so_many}

-- of the entry at a place, where it came after those before it
pub put_at : (recorded : RunRecord) → IsRecorded recorded → (order : List Placed) →
    map placed_item order ≡ entries_of recorded.run.now → (k : ℕ) (d : Placed) → k < length order → (call : Call) →
    slice_get (calls_of recorded.script.now (slice_index_or order k d).id.rank) (slice_index_or order k d).call
    ≡ Some call → (gains after : GainsByPlace) (clocks later : List (List Mark)) →
    Replayed recorded.script.now recorded.run.now k gains clocks →
    ((ranks : ℕ) (entries : List Given) → IsComing ranks entries (row_placed (slice_index_or order k d) call) →
    KeepsInOrder ranks entries gains → IsPut ranks (slice_index_or order k d) call entries clocks after later) →
    Replayed recorded.script.now recorded.run.now (k + 1) after later
put_at recorded is order placed k d within call got gains after clocks later old put =
    let stands = entry_at_place recorded.run.now order placed k d within in
    let long = so_many recorded.script.now Seeded recorded.run.now is.lawful (slice_index_or order k d) call k gains clocks
    stands got old in
    put_more recorded.script.now Seeded recorded.run.now is.lawful (slice_index_or order k d) call k gains after clocks
    later stands got old
    (put recorded.script.now.ranks (map given_told old.told)
    (coming_at recorded is order placed k d within call got (map given_told old.told) long) old.kept)

-- ---- all entries

pub clocks_decide_order : (script : Script) (delay : Delay) (run : Run) → IsLawful script delay run →
    (order : List Placed) → map placed_item order ≡ entries_of run →
    (gains : GainsByPlace) (clocks : List (List Mark)) → Replayed script run (length order) gains clocks →
    IsOrder script run (before_in clocks)
clocks_decide_order script delay run lawful order is gains clocks all =
    let long : length (map placed_item order) ≡ length order = length-map order placed_item in
    let same : length (entries_of run) ≡ length order = sym (ap length is) ∙ long in
    let few = zipped_long (entries_of run) (events_of script.ranks (rows_of script run)) in
    all_replayed script delay run lawful (length order) gains clocks (omega (arith, same, few)) all

pub no_lists : (clocks : List (List Mark)) → clocks ≡ replicate 16 [] → (rank : ℕ) → marks_of clocks rank ≡ []
no_lists clocks is rank = ap (λ l. marks_of l rank) is ∙ empty 16 rank
  where
    empty : (n rank : ℕ) → ◌≡◌ {A = List Mark} (slice_index_or (replicate n []) rank []) []
    empty zero rank = refl
    empty (suc n) zero = refl
    empty (suc n) (suc rank) = empty n rank

pub first_replayed : (script : Script) (run : Run) (gains : GainsByPlace) (clocks : List (List Mark)) →
    KeepsInOrder script.ranks [] gains → clocks ≡ replicate 16 [] → Replayed script run 0 gains clocks
first_replayed script run gains clocks kept is = none_yet script run gains clocks kept (no_lists clocks is)
