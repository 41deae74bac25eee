-- A line is its word, the tokens behind it, and a line feed.
use Rattle.std.proofs.Common.{ℕ, List, ◌∷◌, ◌++◌, ap, ◌∙◌}
use Rattle.std.specs.List.{flat_map}
use Rattle.std.specs.String.{string_bytes}
use Rattle.call_rules.specs.Text.{line, join_by_spaces}
use Rattle.script_language.specs.declared.places.Place.{Place}
use Rattle.script_language.specs.Forms.{word_of_form}
use Rattle.script_language.specs.Spelling.{spelling_of}
use Rattle.script_printer.specs.Printing.{fields_said}
use Rattle.script_printer.proofs.Words.{line_written}
use Rattle.script_printer.proofs.lines.write_line.Goals as goal

pub returns : goal.returns
returns c =
    let old : List ℕ = string_bytes c.args.text.now in
    let spelled : List Place → List (List ℕ) = flat_map (spelling_of (fields_said c.args.said.now)) in
    line_written old c.form_word.result.now (spelled c.form_places.result.now) _ _ _
    c.in_ok-push_str.ensures.bytes c.in_ok-write_places.ensures c.in_ok-push_str-2.ensures.bytes
    ∙ (ap (λ word. old ++ line (join_by_spaces (word ∷ spelled c.form_places.result.now))) c.form_word.ensures
    ∙ ap (λ places. old ++ line (join_by_spaces (word_of_form c.args.form ∷ spelled places))) c.form_places.ensures)
