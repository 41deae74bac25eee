use Rattle.std.proofs.Common.{◌≡◌, ◌-◌, ◌++◌, length}
use Rattle.std.specs.Prelude.{◌==◌}
use Rattle.std.specs.List.{filter, flat_map}
use Rattle.std.specs.String.{string_bytes}
use Rattle.call_rules.specs.Pieces.{numbers_from}
use Rattle.run_texts.specs.Answers.{Answer, answers}
use Rattle.run_texts.specs.Report.{answer_line, call_lines}
use Rattle.run_report.proofs.calls.write_calls.Given as goal

-- what is left gives the whole
abbrev pub invariant-loop-call : goal.invariant-loop-call
invariant-loop-call l =
    string_bytes l.text
    ++ flat_map (λ call. flat_map (answer_line l.rank)
    (filter (λ (a : Answer). a.call == call) (answers l.calls l.items)))
    (numbers_from l.call (length l.calls - l.call))
    ≡ string_bytes l.initial.text ++ call_lines l.rank l.calls l.items
