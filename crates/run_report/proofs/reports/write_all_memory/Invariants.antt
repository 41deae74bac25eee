use Rattle.std.proofs.Common.{◌≡◌, ◌-◌, ◌++◌}
use Rattle.std.specs.List.{flat_map}
use Rattle.std.specs.String.{string_bytes}
use Rattle.call_rules.specs.Pieces.{numbers_from}
use Rattle.run_texts.specs.Report.{cells_at, memory_lines}
use Rattle.run_report.proofs.reports.write_all_memory.Given as goal

-- what is left gives the whole
abbrev pub invariant-loop-rank : goal.invariant-loop-rank
invariant-loop-rank l =
    string_bytes l.text ++ flat_map (λ rank. memory_lines rank (cells_at l.layout l.memory rank))
    (numbers_from l.rank (l.ranks - l.rank))
    ≡ string_bytes l.initial.text ++ flat_map (λ rank. memory_lines rank (cells_at l.layout l.memory rank))
    (numbers_from 0 l.ranks)
