-- What is left gives the whole.
use Rattle.std.proofs.Common.{◌≡◌, ◌++◌, drop, map}
use Rattle.std.specs.Prelude.{filter}
use Rattle.std.specs.String.{string_bytes}
use Rattle.script_language.specs.Spelling.{is_given}
use Rattle.script_language.specs.Words.{all_assertions, assertion_text}
use Rattle.script_printer.specs.Printing.{behind_spaces}
use Rattle.script_printer.proofs.tokens.write_assertions.Given as goal

abbrev pub invariant-loop-index : goal.invariant-loop-index
invariant-loop-index l = string_bytes l.text ++ behind_spaces
    (map assertion_text (filter (is_given l.asserts) (drop l.index l.all))) ≡ string_bytes l.initial.text ++
    behind_spaces (map assertion_text (filter (is_given l.asserts) all_assertions))
