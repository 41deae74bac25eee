-- What the answer of the board tells.
use Rattle.std.proofs.Common.{Bool, None, ◌≡◌, true, false, Option, Some, refl}
use Rattle.rma_types.specs.declared.classes.Class.{Class}
use Rattle.board_rules.specs.Board.{decision_by, Refuse, Allow}

-- a Leave is never refused
pub never_refused : (b : Bool) (class : Class) → decision_by None b ≡ Refuse class → ⊥
never_refused true class e = cc e
never_refused false class e = cc e

pub allowed_now : (o : Option Class) (b : Bool) → decision_by o b ≡ Allow → b ≡ true
allowed_now (Some class) b e = cc
allowed_now None true e = refl
allowed_now None false e = cc
