-- What is answered for a text that says no script.
use Rattle.std.specs.Prelude.{◌≡◌, ℕ, ◌⊎◌, List, Result, Err}
use Rattle.script_language.specs.declared.faults.Fault.{Fault}
use Rattle.script_language.specs.declared.faults.FaultKind.TheVariants.{NoMemory}
use Rattle.script_language.specs.Reading.{HasFault}
use Rattle.script_reader.specs.declared.errors.ReadError.{ReadError}
use Rattle.script_reader.specs.declared.errors.ReadError.TheVariants.{Memory, Refused}
use Rattle.script_reader.specs.declared.parses.Stop.{Stop}

-- the answer for want of memory
abbrev pub memory_fault : Fault
memory_fault = record { line = 0; kind = NoMemory }

abbrev pub fault_at : ℕ → ReadError → Fault
fault_at line Memory = memory_fault
fault_at line (Refused kind) = record { line = line; kind = kind }

abbrev pub fault_of : Stop → Fault
fault_of stop = fault_at stop.line stop.error

abbrev pub StopsAt : {A : Type 0} → ℕ → ReadError → Result A Fault → Type 0
StopsAt line Memory said = Unit {0}
StopsAt line (Refused kind) said = said ≡ Err (record { line = line; kind = kind })

-- reading stopped for want of memory, or with the fault that the definition gives
abbrev pub Stops : {A : Type 0} → Stop → Result A Fault → Type 0
Stops stop said = StopsAt stop.line stop.error said

-- memory ran out, or this is the first fault of the text
abbrev pub IsFaultOf : List ℕ → Fault → Type 0
IsFaultOf text fault = (fault ≡ memory_fault) ⊎ HasFault text fault
