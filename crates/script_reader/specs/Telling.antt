-- What a token does to a line, as the reader has it.
use Rattle.std.specs.Prelude.{◌≡◌, ℕ, List, Result, Ok, Err}
use Rattle.std.specs.Borrow.{Bor}
use Rattle.script_language.specs.declared.faults.FaultKind.{FaultKind}
use Rattle.script_language.specs.declared.fields.Fields.{Fields}
use Rattle.script_language.specs.declared.places.Place.{Place}
use Rattle.script_language.specs.Answers.{◌>>=◌}
use Rattle.script_language.specs.Tokens.{Told}
use Rattle.script_reader.specs.declared.errors.ReadError.{ReadError}
use Rattle.script_reader.specs.Answers.{Fails}

-- the places that were returned, and what the line became
abbrev pub Tells : Result (Bor (List Place)) ReadError → Fields → Result Told FaultKind → Type 0
Tells (Ok places) fields said = said ≡ Ok (record { fields = fields; places = places.now })
Tells (Err error) fields said = Fails error said

-- the line with these values
abbrev pub with_value : Fields → Result (List ℕ) FaultKind → Result Fields FaultKind
with_value fields values = values >>= λ patterns. Ok (record fields { values = patterns })
