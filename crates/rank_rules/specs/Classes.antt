-- The order of the error classes: MPI 3.1, sections 8.4 and 11.6; the order is this project's profile.
use Rattle.std.specs.Prelude.{Bool, List, [], ◌∷◌, if◌then◌else◌, Option, Some, None, nat_lt}
use Rattle.rma_types.specs.declared.classes.Class.{Class}
use Rattle.rma_types.specs.Classes.{class_number}

-- a test that applies or not, and the class of a call for which it applies
abbrev pub Test : Type 0
Test = Bool × Class

-- the class of the first test that applies, or none
abbrev pub first_class : List Test → Option Class
first_class [] = None
first_class ((applies, class) ∷ rest) = if applies then Some class else first_class rest

-- the class with the smaller number
abbrev pub least_class : Option Class → Option Class → Option Class
least_class None other = other
least_class (Some class) None = Some class
least_class (Some class) (Some other) = if nat_lt (class_number other) (class_number class) then Some other else Some
    class
