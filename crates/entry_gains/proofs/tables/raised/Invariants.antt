use Rattle.std.proofs.Common.{◌≡◌, ℕ, ◌<◌, cond, length, false}
use Rattle.std.specs.Prelude.{slice_index, slice_index_or}
use Rattle.entry_gains.specs.Tables.{counted}
use Rattle.entry_gains.proofs.tables.raised.Given as goal

abbrev pub invariant-loop-rank : goal.invariant-loop-rank
invariant-loop-rank l = record {
  done : (k : ℕ) → k < l.rank → slice_index l.raised k
      ≡ cond (slice_index_or l.named k false) (counted (slice_index l.counts k)) (slice_index l.counts k);
  long : length l.raised ≡ 16;
}
