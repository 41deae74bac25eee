-- Options of classes.
use Rattle.std.proofs.Common.{Option, ◌≡◌, true, None, refl, Some, Bool, cond, false}
use Rattle.std.specs.Prelude.{is_none}
use Rattle.rma_types.specs.declared.classes.Class.{Class}

pub none_is : (o : Option Class) → is_none o ≡ true → o ≡ None
none_is None h = refl
none_is (Some class) h = absurd (cc h)

pub least_choice : (b : Bool) (class other : Class) → cond b (Some other) (Some class) ≡ None → ⊥
least_choice true class other e = cc e
least_choice false class other e = cc e
