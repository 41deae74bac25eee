-- What is left gives the whole.
use Rattle.std.proofs.Common.{◌≡◌, ◌++◌, drop}
use Rattle.std.specs.String.{string_bytes}
use Rattle.script_language.specs.Canon.{space_lines}
use Rattle.script_printer.proofs.scripts.write_spaces.Given as goal

abbrev pub invariant-loop-rank : goal.invariant-loop-rank
invariant-loop-rank l = string_bytes l.text ++ space_lines l.rank (drop l.rank l.spaces) ≡ string_bytes l.initial.text
    ++ space_lines 0 l.spaces
