use Rattle.std.proofs.Common.{◌≡◌, ◌*◌, ◌≤◌, take}
use Rattle.std.specs.Prelude.{sum_by, count_by}
use Rattle.run_report.specs.Counts.{test_of}
use Rattle.run_report.proofs.counts.count_items.Given as goal

abbrev pub invariant-loop-rank : goal.invariant-loop-rank
invariant-loop-rank l = record {
  so_far : l.total ≡ sum_by (count_by (test_of l.counted)) (take l.rank l.run.logs);
  bound : l.total ≤ 18446744073709551615 * l.rank;
}
