-- The records of the ranks so far, and one more.
use Rattle.std.proofs.Common.{◌≡◌, ◌+◌, ap, arith, length, subst, sym}
use Rattle.rank_records.specs.Kept.{AreRecordsFrom, IsRecordOf}
use Rattle.rank_records.proofs.WholeLogs.{one_longer, records_more}
use Rattle.rank_records.proofs.replays.records_of.Goals as goal

pub loop-rank-preserved : goal.loop-rank-preserved
loop-rank-preserved c =
    let script = c.args.script.now in
    let run = c.args.run.now in
    let records = c.loop-rank.ranks.items in
    let pushed = c.in-Ok.ensures.items in
    let rank : c.loop-rank.rank ≡ 0 + length records = omega (arith, c.loop-rank.invariant.count) in
    let new = subst (λ n. IsRecordOf script run n c.in_ok-record.record) rank c.in_ok-record.ensures in
    record {
      count = omega (arith, ap length pushed, one_longer records c.in_ok-record.record, c.loop-rank.invariant.count);
      records = subst (AreRecordsFrom script run 0) (sym pushed)
          (records_more script run 0 records c.in_ok-record.record c.loop-rank.invariant.records new);
    }
