use Rattle.std.proofs.Common.{arith}
use Rattle.run_report.specs.Counts.{test_of}
use Rattle.run_report.proofs.Lists.{count_more}
use Rattle.run_report.proofs.counts.count_items.Goals as goal

pub loop-rank-preserved : goal.loop-rank-preserved
loop-rank-preserved c = record {
  so_far = count_more (test_of c.args.counted) c.args.run.now.logs c.loop-rank.rank c.loop-rank.total
      c.count_in.result c.items_of.result.now
      (omega arith) c.items_of.ensures c.count_in.ensures c.loop-rank.invariant.so_far;
  bound = omega arith;
}
