use Rattle.std.proofs.Common.{◌≡◌, ◌-◌, length}
use Rattle.std.specs.Prelude.{not}
use Rattle.std.specs.List.{find, list_any}
use Rattle.call_rules.specs.Pieces.{numbers_from}
use Rattle.run_texts.specs.Answers.{ends, first_left}
use Rattle.run_report.proofs.standings.first_left.Given as goal

-- the first of the calls that are left is the first of all
abbrev pub invariant-loop-call : goal.invariant-loop-call
invariant-loop-call l =
    find (λ call. not (list_any (ends l.calls call) l.items)) (numbers_from l.call (length l.calls - l.call))
    ≡ first_left l.calls l.items
