-- What is left gives the whole.
use Rattle.std.proofs.Common.{◌≡◌, ◌++◌, drop, map}
use Rattle.std.specs.String.{string_bytes}
use Rattle.call_rules.specs.Text.{integer}
use Rattle.script_printer.specs.Printing.{behind_spaces}
use Rattle.script_printer.proofs.tokens.write_group.Given as goal

abbrev pub invariant-loop-index : goal.invariant-loop-index
invariant-loop-index l = string_bytes l.text ++ behind_spaces (map integer (drop l.index l.group)) ≡ string_bytes
    l.initial.text ++ behind_spaces (map integer l.group)
