-- The table of forms says every call.
use Rattle.std.specs.Prelude.{◌≡◌}
use Rattle.rma_types.specs.declared.calls.Call.{Call}
use Rattle.rma_types.specs.CallWords.{word_of}
use Rattle.script_language.specs.Calls.{call_of, form_of, fields_of}
use Rattle.script_language.specs.Forms.{call_word}

-- what the line of a call says is the call
abbrev pub CallsAreSaid : Type 0
CallsAreSaid = (call : Call) → call_of (form_of call) (fields_of call) ≡ call

-- the line of a call begins with its word
abbrev pub CallsHaveTheirWords : Type 0
CallsHaveTheirWords = (call : Call) → call_word (form_of call) ≡ word_of call
