-- What is left gives the whole.
use Rattle.std.proofs.Common.{◌≡◌, ◌++◌, drop, map}
use Rattle.std.specs.String.{string_bytes}
use Rattle.script_language.specs.Spelling.{pattern_text}
use Rattle.script_printer.specs.Printing.{behind_spaces}
use Rattle.script_printer.proofs.tokens.write_values.Given as goal

abbrev pub invariant-loop-index : goal.invariant-loop-index
invariant-loop-index l = string_bytes l.text ++ behind_spaces (map (pattern_text l.dtype) (drop l.index l.values)) ≡
    string_bytes l.initial.text ++ behind_spaces (map (pattern_text l.dtype) l.values)
