-- What is left gives the whole.
use Rattle.std.proofs.Common.{◌≡◌, ◌++◌, drop}
use Rattle.std.specs.String.{string_bytes}
use Rattle.script_language.specs.Canon.{rank_lines}
use Rattle.script_printer.proofs.scripts.write_ranks.Given as goal

abbrev pub invariant-loop-rank : goal.invariant-loop-rank
invariant-loop-rank l = string_bytes l.text ++ rank_lines l.rank (drop l.rank l.lists) ≡ string_bytes l.initial.text ++
    rank_lines 0 l.lists
