-- Why no script was read.
use Rattle.std.specs.Prelude.{ℕ, List, Option}
use Rattle.script_language.specs.Reading.{HasFault}
use Rattle.rma_program.specs.Answers.{ReadsAsNone}
use Rattle.rma_program.specs.declared.inputs.NoScript.{NoScript}
use Rattle.rma_program.specs.declared.inputs.NoScript.TheVariants.{Failed, NoMemory, Refused}

-- the fault is the first of the text, unless memory ran out
abbrev pub IsRefusal : List ℕ → NoScript → Type 0
IsRefusal text Failed = ⊥
IsRefusal text NoMemory = Unit {0}
IsRefusal text (Refused fault) = HasFault text fault

-- the fault is the first of the bytes taken, unless memory ran out or a read failed
abbrev pub IsWhy : Option (List ℕ) → Option (List ℕ) → NoScript → Type 0
IsWhy before after Failed = Unit {0}
IsWhy before after NoMemory = Unit {0}
IsWhy before after (Refused fault) = ReadsAsNone before after fault
