-- What the functions of the reader give: what the definition gives, unless memory ran out.
use Rattle.std.specs.Prelude.{◌≡◌, Result, Ok, Err}
use Rattle.script_language.specs.declared.faults.FaultKind.{FaultKind}
use Rattle.script_reader.specs.declared.errors.ReadError.{ReadError}
use Rattle.script_reader.specs.declared.errors.ReadError.TheVariants.{Memory, Refused}

-- reading stopped: for want of memory, or with the fault that the definition gives
abbrev pub Fails : {A : Type 0} → ReadError → Result A FaultKind → Type 0
Fails Memory said = Unit {0}
Fails (Refused kind) said = said ≡ Err kind

-- the value that was returned is what the definition gives
abbrev pub Gives : {A : Type 0} → Result A ReadError → Result A FaultKind → Type 0
Gives (Ok x) said = said ≡ Ok x
Gives (Err error) said = Fails error said

-- what a value became is what the definition gives
abbrev pub Does : {T A : Type 0} → Result T ReadError → A → Result A FaultKind → Type 0
Does (Ok done) new said = said ≡ Ok new
Does (Err error) new said = Fails error said
