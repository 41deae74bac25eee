-- What is known of the range of an accepted attach.
use Rattle.std.proofs.Common.{◌≡◌, ℕ, ◌+◌, ◌≤◌, Bool, true, false, not, ◌∷◌, [], refl}
use Rattle.std.specs.Prelude.{None, pos, int_lt, ◌+ℤ◌}
use Rattle.std.proofs.lemmas.Bool.{or_parts, ltb-false}
use Rattle.rma_types.specs.declared.classes.Class.{Class}
use Rattle.rma_types.specs.declared.classes.Class.TheVariants.{Win, Flavor, Size, Base, Attach}
use Rattle.rma_types.specs.declared.actions.Action.TheVariants.{Attaches}
use Rattle.rank_rules.specs.Classes.{first_class}
use Rattle.rank_rules.specs.Windows.{RankWindows, is_live}
use Rattle.rank_rules.specs.WindowTests.{window_class, is_not_dynamic, is_outside, is_in_use}

-- where no class is given, the fourth test does not apply
fourth-passes : (a b c d e : Bool) (k l m n o : Class)
    → first_class ((a, k) ∷ (b, l) ∷ (c, m) ∷ (d, n) ∷ (e, o) ∷ []) ≡ None → d ≡ false
fourth-passes true b c d e k l m n o h = absurd cc
fourth-passes false true c d e k l m n o h = absurd cc
fourth-passes false false true d e k l m n o h = absurd cc
fourth-passes false false false true e k l m n o h = absurd cc
fourth-passes false false false false e k l m n o h = refl

pub ends_in_space : (known : RankWindows) (win base bytes : ℕ)
    → window_class known (Attaches win (pos base) (pos bytes)) ≡ None → base + bytes ≤ known.space
ends_in_space known win base bytes h =
    ltb-false known.space (base + bytes)
    (or_parts (int_lt (pos base) (pos 0)) (int_lt (pos known.space) (pos base +ℤ pos bytes))
    (fourth-passes (not (is_live known win)) (is_not_dynamic known win) (int_lt (pos bytes) (pos 1))
    (is_outside known (pos base) (pos bytes)) (is_in_use known (pos base) (pos bytes)) Win Flavor Size Base Attach h)).1
