-- What is left gives the whole.
use Rattle.std.proofs.Common.{◌≡◌, ◌++◌, drop}
use Rattle.std.specs.List.{flat_map}
use Rattle.std.specs.String.{string_bytes}
use Rattle.script_language.specs.Spelling.{spelling_of}
use Rattle.script_printer.specs.Printing.{behind_spaces, fields_said}
use Rattle.script_printer.proofs.lines.write_places.Given as goal

abbrev pub invariant-loop-index : goal.invariant-loop-index
invariant-loop-index l = string_bytes l.text ++ behind_spaces
    (flat_map (spelling_of (fields_said l.said)) (drop l.index l.places)) ≡ string_bytes l.initial.text ++ behind_spaces
    (flat_map (spelling_of (fields_said l.said)) l.places)
