use Rattle.std.proofs.Common.{◌≡◌, ◌-◌, ◌++◌}
use Rattle.std.specs.List.{flat_map}
use Rattle.std.specs.String.{string_bytes}
use Rattle.call_rules.specs.Pieces.{numbers_from}
use Rattle.lawful_runs.specs.Logs.{calls_of, log_of}
use Rattle.run_texts.specs.Report.{call_lines}
use Rattle.run_report.proofs.reports.write_all_calls.Given as goal

-- what is left gives the whole
abbrev pub invariant-loop-rank : goal.invariant-loop-rank
invariant-loop-rank l =
    string_bytes l.text ++ flat_map (λ rank. call_lines rank (calls_of l.script rank) (log_of l.run rank))
    (numbers_from l.rank (l.ranks - l.rank))
    ≡ string_bytes l.initial.text ++ flat_map (λ rank. call_lines rank (calls_of l.script rank) (log_of l.run rank))
    (numbers_from 0 l.ranks)
