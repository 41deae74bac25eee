-- The form is among those whose words begin with the token's first byte.
use Rattle.std.proofs.Common.{ap, ◌∙◌, arith}
use Rattle.std.specs.List.{find}
use Rattle.std.specs.Str.{bytes_eq}
use Rattle.script_language.specs.Forms.{word_of_form}
use Rattle.script_reader.proofs.FormWords.{form_among}
use Rattle.script_reader.proofs.forms.form_named.Goals as goal

pub returns-in-len1-up : goal.returns-in-len1-up
returns-in-len1-up c =
    c.named_among.ensures
    ∙ (ap (find (λ form. bytes_eq (word_of_form form) c.args.token.now)) c.forms_beginning.ensures
    ∙ form_among c.args.token.now (omega arith))
