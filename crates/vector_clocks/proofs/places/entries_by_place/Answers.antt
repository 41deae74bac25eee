-- The entries that are kept, at their places, are those of the run.
use Rattle.std.proofs.Common.{◌≡◌, List, replicate, ap, ◌∙◌}
use Rattle.std.specs.Prelude.{min}
use Rattle.rank_records.specs.declared.kept.RankRecord.{RankRecord}
use Rattle.vector_clocks.specs.Places.{count_kept, no_entry, with_records}
use Rattle.vector_clocks.proofs.KeptPlaces.{order_is}
use Rattle.vector_clocks.proofs.places.entries_by_place.Goals as goal

pub returns : goal.returns
returns c = order_is c.args.recorded.now c.requires c.in_ok-list.list.items
    (c.in_ok-list.ensures
    ∙ ap (λ (records : List RankRecord).
    with_records (replicate (min (count_kept records) 18446744073709551615) no_entry) records)
    c.as_slice.ensures.value)
