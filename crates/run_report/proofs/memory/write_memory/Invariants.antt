use Rattle.std.proofs.Common.{◌≡◌, ◌-◌, ◌*◌, ◌++◌, drop, take}
use Rattle.std.specs.List.{flat_map}
use Rattle.std.specs.String.{string_bytes}
use Rattle.call_rules.specs.Pieces.{numbers_from}
use Rattle.run_texts.specs.Report.{memory_line}
use Rattle.run_report.proofs.memory.write_memory.Given as goal

-- what is left gives the whole
abbrev pub invariant-loop-piece : goal.invariant-loop-piece
invariant-loop-piece l =
    string_bytes l.text
    ++ flat_map (λ piece. memory_line l.rank (32 * piece) (take 8 (drop (8 * piece) l.cells)))
    (numbers_from l.piece (l.count - l.piece))
    ≡ string_bytes l.initial.text
    ++ flat_map (λ piece. memory_line l.rank (32 * piece) (take 8 (drop (8 * piece) l.cells))) (numbers_from 0 l.count)
