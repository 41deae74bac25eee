use Rattle.std.proofs.Common.{◌≡◌, ◌*◌, ◌≤◌, take}
use Rattle.std.specs.Prelude.{sum}
use Rattle.run_report.proofs.counts.total_of.Given as goal

abbrev pub invariant-loop-cell : goal.invariant-loop-cell
invariant-loop-cell l = record {
  so_far : l.total ≡ sum (take l.cell-index l.cells);
  bound : l.total ≤ 4294967295 * l.cell-index;
}
