use Rattle.std.proofs.Common.{◌-◌, ◌++◌, length}
use Rattle.std.specs.String.{string_bytes}
use Rattle.run_report.specs.Parts.{item_lines, said_lines}
use Rattle.run_report.proofs.Walks.{Writes}
use Rattle.run_report.proofs.calls.write_said.Given as goal

-- what is left of the chain gives the rest of the text
abbrev pub invariant-links : goal.invariant-links
invariant-links l =
    Writes l.items l.chains.next.items (λ one. item_lines l.rank l.calls l.items one.0 one.1) l.at (string_bytes l.text)
    (string_bytes l.initial.text ++ said_lines l.rank l.calls l.items l.call)

abbrev pub decreases-links : goal.decreases-links
decreases-links l = length l.items - l.at
