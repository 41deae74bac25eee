use Rattle.std.proofs.Common.{◌≡◌, ◌++◌, drop}
use Rattle.std.specs.List.{flat_map}
use Rattle.std.specs.String.{string_bytes}
use Rattle.run_texts.specs.Report.{finding_line}
use Rattle.run_report.proofs.findings.write_findings.Given as goal

-- what is left gives the whole
abbrev pub invariant-loop-finding : goal.invariant-loop-finding
invariant-loop-finding l =
    string_bytes l.text ++ flat_map (finding_line l.run) (drop l.finding-index l.found)
    ≡ string_bytes l.initial.text ++ flat_map (finding_line l.run) l.found
