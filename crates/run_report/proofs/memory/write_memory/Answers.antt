use Rattle.std.proofs.Common.{◌*◌, take, drop}
use Rattle.run_texts.specs.Report.{memory_line}
use Rattle.run_report.proofs.Lists.{written_step}
use Rattle.run_report.proofs.memory.write_memory.Goals as goal

pub loop-piece-preserved : goal.loop-piece-preserved
loop-piece-preserved c =
    written_step (λ piece. memory_line c.args.rank (32 * piece) (take 8 (drop (8 * piece) c.args.cells.now)))
    c.loop-piece.piece _ _ _ _ c.loop-piece-test.true c.loop-piece.invariant c.in_ok-write_piece.ensures
