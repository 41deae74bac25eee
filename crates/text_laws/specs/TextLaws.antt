-- The canonical text of a script says the script.
use Rattle.std.specs.Prelude.{◌≤◌, length}
use Rattle.rma_types.specs.declared.scripts.Script.{Script}
use Rattle.call_rules.specs.WellFormed.{IsWellFormed}
use Rattle.script_language.specs.Canon.{canon}
use Rattle.script_language.specs.Reading.{Reads}

-- the canonical text of a script that a text can say is read again as the script, unless it is too long
abbrev pub CanonicalTextsAreReadAgain : Type 0
CanonicalTextsAreReadAgain = (script : Script) → IsWellFormed script → length (canon script) ≤ 1048576 →
    Reads (canon script) script
