-- What reading gives, step after step: a value, or a fault.
use Rattle.std.specs.Prelude.{Option, Some, None, Result, Ok, Err}
use Rattle.script_language.specs.declared.faults.FaultKind.{FaultKind}

-- what the second step makes of the value, unless the first had a fault
infixl 10 ◌>>=◌
abbrev pub ◌>>=◌ : {A B E : Type 0} → Result A E → (A → Result B E) → Result B E
(Ok x) >>= step = step x
(Err fault) >>= step = Err fault

-- the value that was found, else a fault of this kind
abbrev pub found_or : {A : Type 0} → FaultKind → Option A → Result A FaultKind
found_or kind (Some x) = Ok x
found_or kind None = Err kind
