-- What is left gives the whole.
use Rattle.std.proofs.Common.{◌≡◌, ◌++◌, drop}
use Rattle.std.specs.List.{flat_map}
use Rattle.std.specs.String.{string_bytes}
use Rattle.script_language.specs.Canon.{call_line}
use Rattle.script_printer.proofs.scripts.write_calls.Given as goal

abbrev pub invariant-loop-index : goal.invariant-loop-index
invariant-loop-index l = string_bytes l.text ++ flat_map call_line (drop l.index l.calls) ≡ string_bytes l.initial.text
    ++ flat_map call_line l.calls
