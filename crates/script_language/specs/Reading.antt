-- The reading of a text: the script that it says, or its first fault with the line and the kind.
use Rattle.std.specs.Prelude.{◌≡◌, ℕ, ◌+◌, nat_le, if◌then◌else◌, List, [], ◌∷◌, length, Result, Ok, Err}
use Rattle.rma_types.specs.declared.scripts.Script.{Script}
use Rattle.script_language.specs.declared.drafts.Draft.{Draft}
use Rattle.script_language.specs.declared.faults.Fault.{Fault}
use Rattle.script_language.specs.declared.faults.FaultKind.{FaultKind}
use Rattle.script_language.specs.declared.faults.FaultKind.TheVariants.{Word, Shape, Limit}
use Rattle.script_language.specs.declared.forms.Form.{Form}
use Rattle.script_language.specs.Calls.{no_fields}
use Rattle.script_language.specs.Answers.{◌>>=◌, found_or}
use Rattle.script_language.specs.Drafts.{no_lines, is_in_place, with_line, draft_within_limits, script_at_end}
use Rattle.script_language.specs.Forms.{places_of}
use Rattle.script_language.specs.Lines.{lines_of, tokens_of}
use Rattle.script_language.specs.Tokens.{tokens_read}
use Rattle.script_language.specs.Words.{form_named}

-- a form where it may stand
abbrev pub form_in_place : Draft → Form → Result Form FaultKind
form_in_place draft form = if is_in_place draft form then Ok form else Err Shape

-- the form that the first token names, where it may stand
abbrev pub form_read : Draft → List ℕ → Result Form FaultKind
form_read draft token = found_or Word (form_named token) >>= form_in_place draft

-- the script so far after a line of a form, whose totals are tested at its end
abbrev pub rest_read : Draft → List (List ℕ) → Form → Result Draft FaultKind
rest_read draft tokens form =
    tokens_read draft no_fields (places_of form) tokens >>= λ fields. draft_within_limits (with_line draft form fields)

-- the script so far after the tokens of one more line; a line without tokens says nothing
abbrev pub line_read : Draft → List (List ℕ) → Result Draft FaultKind
line_read draft [] = Ok draft
line_read draft (word ∷ tokens) = form_read draft word >>= rest_read draft tokens

-- a fault stands in this line
abbrev pub at_line : {A : Type 0} → ℕ → Result A FaultKind → Result A Fault
at_line line (Ok x) = Ok x
at_line line (Err kind) = Err (record { line = line; kind = kind })

-- the lines in their order, the first of which has this number
abbrev pub lines_read : ℕ → Draft → List (List ℕ) → Result Draft Fault
lines_read line draft [] = Ok draft
lines_read line draft (bytes ∷ lines) =
    at_line line (line_read draft (tokens_of bytes)) >>= λ next. lines_read (line + 1) next lines

-- a text that is not too long: its lines, and then its end, which stands in the last line
abbrev pub text_read : List (List ℕ) → Result Script Fault
text_read lines = lines_read 1 no_lines lines >>= λ draft. at_line (length lines) (script_at_end draft)

-- at most 1,048,576 bytes are read
unfoldable pub read : List ℕ → Result Script Fault
read text = if nat_le (length text) 1048576 then text_read (lines_of text) else Err (record { line = 0; kind = Limit })

-- the text says this script
abbrev pub Reads : List ℕ → Script → Type 0
Reads text script = read text ≡ Ok script

-- this is the first fault of the text
abbrev pub HasFault : List ℕ → Fault → Type 0
HasFault text fault = read text ≡ Err fault
