use Rattle.std.proofs.Common.{ℕ, ◌++◌, ◌∙◌, List, ap}
use Rattle.std.specs.List.{flat_map}
use Rattle.std.specs.String.{string_bytes}
use Rattle.rma_types.specs.declared.scripts.Layout.{Layout}
use Rattle.call_rules.specs.Layout.{layout as layout_of}
use Rattle.call_rules.specs.Pieces.{numbers_from}
use Rattle.run_texts.specs.Report.{cells_at, memory_lines}
use Rattle.run_report.proofs.Lists.{five_written}
use Rattle.run_report.proofs.reports.write_full.Goals as goal

pub returns : goal.returns
returns c =
    let before = string_bytes c.write_all_calls.new.text in
    let ranks = numbers_from 0 c.args.script.now.ranks in
    five_written _ _ _ _ _ _ _ _ _ _ _ c.in_ok-write_first.ensures c.in_ok-write_all_calls.ensures
    (c.in_ok-write_all_memory.ensures
    ∙ ap (λ (layout : Layout). before
    ++ flat_map (λ rank. memory_lines rank (cells_at layout c.as_slice.result.now rank)) ranks) c.requires.layout
    ∙ ap (λ (memory : List ℕ). before
    ++ flat_map (λ rank. memory_lines rank
    (cells_at (layout_of c.args.script.now) memory rank)) ranks) c.as_slice.ensures)
    c.in_ok-write_findings.ensures c.in_ok-write_summary.ensures
