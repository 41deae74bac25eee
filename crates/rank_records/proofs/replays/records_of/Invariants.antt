use Rattle.std.proofs.Common.{◌≡◌, length}
use Rattle.rank_records.specs.Kept.{AreRecordsFrom}
use Rattle.rank_records.proofs.replays.records_of.Given as goal

abbrev pub invariant-loop-rank : goal.invariant-loop-rank
invariant-loop-rank l = record {
  count : length l.ranks.items ≡ l.rank;
  records : AreRecordsFrom l.script l.run 0 l.ranks.items;
}
