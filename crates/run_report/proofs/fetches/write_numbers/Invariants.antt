use Rattle.std.proofs.Common.{◌+◌, ◌-◌, ◌++◌, length}
use Rattle.std.specs.String.{string_bytes}
use Rattle.run_report.specs.Parts.{number_found, numbers_found}
use Rattle.run_report.proofs.Walks.{Writes}
use Rattle.run_report.proofs.fetches.write_numbers.Given as goal

-- what is left of the chain gives the rest of the text
abbrev pub invariant-touches : goal.invariant-touches
invariant-touches l =
    Writes l.items l.chains.next.items (λ one. number_found l.access l.dtype one.1) l.at (string_bytes l.text)
    (string_bytes l.initial.text ++ numbers_found l.access l.dtype l.calls l.index l.items)

abbrev pub decreases-touches : goal.decreases-touches
decreases-touches l = length l.items - l.at
