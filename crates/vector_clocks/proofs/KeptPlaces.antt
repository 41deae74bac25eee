-- The steps that are entries, put at their places, are the entries of the run in the order of their places.
use Rattle.std.proofs.Common.{◌≡◌, ℕ, zero, suc, ◌+◌, ◌≤◌, Bool, true, false, cond, List, [], ◌∷◌, ◌++◌, Option, Some}
use Rattle.std.proofs.Common.{None}
use Rattle.std.proofs.Common.{length, map, replicate, refl, ap, sym, subst, ◌∙◌, arith}
use Rattle.std.specs.Prelude.{is_some, min, slice_index_or}
use Rattle.std.proofs.Math.Nat.{min-eq_left}
use Rattle.std.specs.List.{count_by, filter, flat_map}
use Rattle.std.proofs.lemmas.List.{length-append}
use Rattle.std.proofs.lemmas.List.Elements.{filter-append}
use Rattle.std.proofs.lemmas.List.Sums.{length-filter, sum_by-cons}
use Rattle.rma_record.specs.declared.items.Item.{Item}
use Rattle.rma_record.specs.declared.items.Item.TheVariants.{Issue, Null, Touch, Flush, Request, Entry, Tested, Refused}
use Rattle.rma_record.specs.declared.items.Item.TheVariants.{Ended}
use Rattle.rma_record.specs.declared.runs.Run.{Run}
use Rattle.rma_types.specs.declared.accesses.Id.{Id}
use Rattle.rma_types.specs.declared.scripts.Script.{Script}
use Rattle.lawful_runs.specs.Logs.{Named, entries_of, is_some_entry, log_of, named_in, named_items, named_logs}
use Rattle.rank_records.specs.Kept.{AreRecordsFrom, IsRecorded, entry_kept}
use Rattle.rank_records.specs.declared.kept.KeptStep.{KeptStep}
use Rattle.rank_records.specs.declared.kept.RankRecord.{RankRecord}
use Rattle.rank_records.specs.declared.kept.RunRecord.{RunRecord}
use Rattle.vector_clocks.specs.Places.{count_kept, has_place, no_entry, placed_item, with_records, with_step}
use Rattle.vector_clocks.specs.Places.{with_steps}
use Rattle.vector_clocks.specs.declared.places.Placed.{Placed}
use Rattle.vector_clocks.proofs.FewEntries.{few_entries}
use Rattle.vector_clocks.proofs.Orders.{placed_all, with_item, with_items}

-- the entries that are kept of all ranks
unfoldable pub entries_kept : List RankRecord → List Named
entries_kept records = flat_map (λ (one : RankRecord). flat_map entry_kept one.steps) records

-- ---- one list of steps

with_append : (list : List Placed) (xs ys : List Named) → with_items list (xs ++ ys)
    ≡ with_items (with_items list xs) ys
with_append list [] ys = refl
with_append list (x ∷ xs) ys = with_append (with_item list x.id x.item) xs ys

with_one : (list : List Placed) (kept : KeptStep) → with_step list kept ≡ with_items list (entry_kept kept)
with_one list kept = by_place kept.place refl
  where
    by_place : (o : Option ℕ) → kept.place ≡ o → with_step list kept ≡ with_items list (entry_kept kept)
    by_place None e = rw e refl
    by_place (Some place) e = rw e refl

steps_put : (list : List Placed) (steps : List KeptStep) →
    with_steps list steps ≡ with_items list (flat_map entry_kept steps)
steps_put list [] = refl
steps_put list (kept ∷ rest) =
    steps_put (with_step list kept) rest
    ∙ ap (λ l. with_items l (flat_map entry_kept rest)) (with_one list kept)
    ∙ sym (with_append list (entry_kept kept) (flat_map entry_kept rest))

count_one : (kept : KeptStep) → cond (has_place kept) 1 0 ≡ length (entry_kept kept)
count_one kept = by_place kept.place refl
  where
    by_place : (o : Option ℕ) → kept.place ≡ o → cond (has_place kept) 1 0 ≡ length (entry_kept kept)
    by_place None e = rw e refl
    by_place (Some place) e = rw e refl

steps_counted : (steps : List KeptStep) → count_by has_place steps ≡ length (flat_map entry_kept steps)
steps_counted [] = refl
steps_counted (kept ∷ rest) =
    sum_by-cons (λ (one : KeptStep). cond (has_place one) 1 0) kept rest
    ∙ ap (λ n. n + count_by has_place rest) (count_one kept)
    ∙ ap (λ n. length (entry_kept kept) + n) (steps_counted rest)
    ∙ sym (length-append (entry_kept kept) (flat_map entry_kept rest))

-- ---- all ranks

records_put : (list : List Placed) (records : List RankRecord) →
    with_records list records ≡ with_items list (entries_kept records)
unfolding entries_kept
records_put list [] = refl
records_put list (one ∷ rest) =
    records_put (with_steps list one.steps) rest
    ∙ ap (λ l. with_items l (entries_kept rest)) (steps_put list one.steps)
    ∙ sym (with_append list (flat_map entry_kept one.steps) (entries_kept rest))

records_counted : (records : List RankRecord) → count_kept records ≡ length (entries_kept records)
unfolding entries_kept
records_counted [] = refl
records_counted (one ∷ rest) =
    sum_by-cons (λ (one : RankRecord). count_by has_place one.steps) one rest
    ∙ ap (λ n. n + count_kept rest) (steps_counted one.steps)
    ∙ ap (λ n. length (flat_map entry_kept one.steps) + n) (records_counted rest)
    ∙ sym (length-append (flat_map entry_kept one.steps) (entries_kept rest))

-- the logs from that of the rank on
unfoldable logs_from : ℕ → List (List Item) → List (List Item)
logs_from zero logs = logs
logs_from (suc rank) [] = []
logs_from (suc rank) (log ∷ logs) = logs_from rank logs

from_next : (rank : ℕ) (logs : List (List Item)) → rank + 1 ≤ length logs →
    logs_from rank logs ≡ slice_index_or logs rank [] ∷ logs_from (suc rank) logs
unfolding logs_from
from_next zero [] within = absurd (omega arith)
from_next (suc rank) [] within = absurd (omega arith)
from_next zero (log ∷ logs) within = refl
from_next (suc rank) (log ∷ logs) within = from_next rank logs (omega (arith, within))

from_end : (rank : ℕ) (logs : List (List Item)) → rank ≡ length logs → logs_from rank logs ≡ []
unfolding logs_from
from_end zero [] end = refl
from_end (suc rank) [] end = absurd (omega arith)
from_end zero (log ∷ logs) end = absurd (omega arith)
from_end (suc rank) (log ∷ logs) end = from_end rank logs (omega (arith, end))

entries_from : (script : Script) (run : Run) (rank : ℕ) (records : List RankRecord) →
    AreRecordsFrom script run rank records → rank + length records ≡ length run.logs →
    entries_kept records ≡ filter is_some_entry (named_logs rank (logs_from rank run.logs))
unfolding entries_kept
entries_from script run rank [] all ends =
    ap (λ logs. filter is_some_entry (named_logs rank logs)) (sym (from_end rank run.logs (omega (arith, ends))))
entries_from script run rank (one ∷ rest) all ends =
    let next : suc rank ≡ rank + 1 = omega arith in
    ap (λ l. l ++ entries_kept rest) all.0.entries
    ∙ ap (λ l. filter is_some_entry (named_in rank (log_of run rank)) ++ l)
    (entries_from script run (rank + 1) rest all.1 (omega (arith, ends))
    ∙ ap (λ n. filter is_some_entry (named_logs (rank + 1) (logs_from n run.logs))) (sym next))
    ∙ sym (filter-append is_some_entry (named_in rank (log_of run rank))
    (named_logs (rank + 1) (logs_from (suc rank) run.logs)))
    ∙ ap (λ logs. filter is_some_entry (named_logs rank logs)) (sym (from_next rank run.logs (omega (arith, ends))))

-- the entries that are kept are those of the run
entries_are : (recorded : RunRecord) → IsRecorded recorded →
    entries_kept recorded.ranks.items ≡ filter is_some_entry (named_items recorded.run.now)
unfolding logs_from
entries_are recorded is =
    let ranks = is.ranks in
    let logs = is.lawful.ranks in
    entries_from recorded.script.now recorded.run.now 0 recorded.ranks.items is.each (omega (arith, ranks, logs))

-- an item that is no entry is not put
other_item : (list : List Placed) (id : Id) (item : Item) → is_some_entry (record { id = id; item = item }) ≡ false →
    with_item list id item ≡ list
other_item list id (Issue number access) h = refl
other_item list id (Null number) h = refl
other_item list id (Touch issue element cell place bits) h = refl
other_item list id (Flush number) h = refl
other_item list id (Request number) h = refl
other_item list id (Entry number place step) h = absurd (cc h)
other_item list id (Tested number seen) h = refl
other_item list id (Refused number class seen) h = refl
other_item list id Ended h = refl

only_entries : (list : List Placed) (items : List Named) →
    with_items list (filter is_some_entry items) ≡ with_items list items
only_entries list [] = refl
only_entries list (x ∷ items) =
    by_test (is_some_entry x) refl (only_entries (with_item list x.id x.item) items) (only_entries list items)
  where
    by_test : (b : Bool) → is_some_entry x ≡ b →
        with_items (with_item list x.id x.item) (filter is_some_entry items)
        ≡ with_items (with_item list x.id x.item) items →
        with_items list (filter is_some_entry items) ≡ with_items list items →
        with_items list (cond (is_some_entry x) (x ∷ filter is_some_entry items) (filter is_some_entry items))
        ≡ with_items (with_item list x.id x.item) items
    by_test true e put other = rw e put
    by_test false e put other =
        rw e (other ∙ ap (λ l. with_items l items) (sym (other_item list x.id x.item e)))

-- how many entries are kept
pub kept_count : (recorded : RunRecord) → IsRecorded recorded →
    count_kept recorded.ranks.items ≡ count_by is_some_entry (named_items recorded.run.now)
kept_count recorded is =
    records_counted recorded.ranks.items ∙ ap length (entries_are recorded is)
    ∙ length-filter is_some_entry (named_items recorded.run.now)

pub order_is : (recorded : RunRecord) → IsRecorded recorded → (order : List Placed) →
    order ≡ with_records (replicate (min (count_kept recorded.ranks.items) 18446744073709551615) no_entry)
    recorded.ranks.items →
    map placed_item order ≡ entries_of recorded.run.now
order_is recorded is order made =
    let count = kept_count recorded is in
    let few = few_entries recorded.script.now recorded.run.now is.formed is.lawful in
    let whole : min (count_kept recorded.ranks.items) 18446744073709551615 ≡ count_kept recorded.ranks.items =
    min-eq_left (omega (arith, count, few)) in
    ap (map placed_item) (made
    ∙ ap (λ n. with_records (replicate n no_entry) recorded.ranks.items) whole
    ∙ records_put (replicate (count_kept recorded.ranks.items) no_entry) recorded.ranks.items
    ∙ ap (with_items (replicate (count_kept recorded.ranks.items) no_entry)) (entries_are recorded is)
    ∙ only_entries (replicate (count_kept recorded.ranks.items) no_entry) (named_items recorded.run.now))
    ∙ placed_all recorded.script.now recorded.run.now is.lawful.board.entries (count_kept recorded.ranks.items)
    (kept_count recorded is)
