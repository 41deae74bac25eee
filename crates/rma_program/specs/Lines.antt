-- The lines that are written where there is no report: this project's profile.
use Rattle.std.specs.Prelude.{ℕ, List, [], ◌∷◌, codes}
use Rattle.call_rules.specs.Text.{line, join_by_spaces, number}
use Rattle.script_language.specs.declared.faults.Fault.{Fault}
use Rattle.script_language.specs.declared.faults.FaultKind.{FaultKind}
use Rattle.script_language.specs.declared.faults.FaultKind.TheVariants.{Word, Number, Datatype, Op, Name, Shape, Limit}
use Rattle.script_language.specs.declared.faults.FaultKind.TheVariants.{NoMemory}

-- the word of a fault's kind
abbrev pub kind_text : FaultKind → List ℕ
kind_text Word = codes "word"
kind_text Number = codes "number"
kind_text Datatype = codes "type"
kind_text Op = codes "op"
kind_text Name = codes "name"
kind_text Shape = codes "shape"
kind_text Limit = codes "limit"
kind_text NoMemory = codes "memory"

-- the line of a script that is refused
abbrev pub fault_line : Fault → List ℕ
fault_line fault = line (join_by_spaces (codes "script" ∷ number fault.line ∷ kind_text fault.kind ∷ []))

-- the line of words that are refused
abbrev pub usage_line : List ℕ
usage_line = line (codes "usage: rma_runner [--mode M] [--order O] [--workers N] [--delay D] [--seed S]")
