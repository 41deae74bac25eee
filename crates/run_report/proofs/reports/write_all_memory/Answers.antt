use Rattle.std.proofs.Common.{ℕ, ◌++◌, ◌∙◌, List, ap}
use Rattle.std.specs.String.{string_bytes}
use Rattle.run_texts.specs.Report.{cells_at, memory_lines}
use Rattle.run_report.proofs.Lists.{written_step}
use Rattle.run_report.proofs.reports.write_all_memory.Goals as goal

pub loop-rank-preserved : goal.loop-rank-preserved
loop-rank-preserved c =
    written_step (λ rank. memory_lines rank (cells_at c.args.layout.now c.args.memory.now rank))
    c.loop-rank.rank _ _ _ _ c.loop-rank-test.true c.loop-rank.invariant
    (c.in_ok-write_memory.ensures
    ∙ ap (λ (cells : List ℕ). string_bytes c.loop-rank.text
    ++ memory_lines c.loop-rank.rank cells) c.cells_of.ensures.value)
