-- The forms by the byte that begins their word.
use Rattle.std.specs.Prelude.{ℕ, Bool, false, ◌==◌, List, [], ◌∷◌, filter}
use Rattle.script_language.specs.declared.forms.Form.{Form}
use Rattle.script_language.specs.Forms.{word_of_form, all_forms}

-- the text begins with the byte
abbrev pub begins_with : ℕ → List ℕ → Bool
begins_with byte [] = false
begins_with byte (first ∷ rest) = byte == first

-- the forms whose words begin with the byte, in the order of the table
abbrev pub forms_with : ℕ → List Form
forms_with byte = filter (λ form. begins_with byte (word_of_form form)) all_forms
