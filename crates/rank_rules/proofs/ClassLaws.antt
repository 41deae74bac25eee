-- The first class that applies.
use Rattle.std.proofs.Common.{Option, ◌≡◌, None, refl, Some, Bool, List, ◌∷◌, false, true, []}
use Rattle.std.specs.List.{AllByRecursion}
use Rattle.std.specs.Prelude.{nat_lt}
use Rattle.rma_types.proofs.ClassLaws.{least_choice}
use Rattle.rma_types.specs.Classes.{class_number}
use Rattle.rma_types.specs.declared.classes.Class.{Class}
use Rattle.rank_rules.specs.Classes.{least_class, Test, first_class}

-- no class is the least where there is none
pub least_none : (a b : Option Class) → least_class a b ≡ None → (a ≡ None) × (b ≡ None)
least_none None other e = (refl, e)
least_none (Some class) None e = absurd (cc e)
least_none (Some class) (Some other) e =
    absurd (least_choice (nat_lt (class_number other) (class_number class)) class other e)

-- where no test applies, the first does not, nor do the others
pub first_passed : (applies : Bool) (class : Class) (rest : List Test) → first_class ((applies, class) ∷ rest) ≡ None →
    (applies ≡ false) × (first_class rest ≡ None)
first_passed true class rest e = absurd (cc e)
first_passed false class rest e = (refl, e)

-- so it is with each test
pub none_applies : (tests : List Test) → first_class tests ≡ None → AllByRecursion (λ (one : Test). one.0 ≡ false) tests
none_applies [] e = tt
none_applies ((applies, class) ∷ rest) e = let passed = first_passed applies class rest e in
    (passed.0, none_applies rest passed.1)
