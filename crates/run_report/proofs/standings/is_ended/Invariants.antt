use Rattle.std.proofs.Common.{◌-◌, length}
use Rattle.std.specs.List.{list_any}
use Rattle.run_texts.specs.Answers.{ends}
use Rattle.run_report.proofs.Walks.{Asks}
use Rattle.run_report.proofs.standings.is_ended.Given as goal

-- what is left of the chain decides
abbrev pub invariant-links : goal.invariant-links
invariant-links l =
    Asks l.items l.chains.next.items (ends l.calls l.call) l.at (list_any (ends l.calls l.call) l.items)

abbrev pub decreases-links : goal.decreases-links
decreases-links l = length l.items - l.at
