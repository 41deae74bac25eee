-- One window more is counted.
use Rattle.std.proofs.Common.{ℕ, List, [], ◌∷◌, ◌++◌, sym, ◌∙◌, ap, subst}
use Rattle.window_regions.proofs.RoundsMade.{one_made}
use Rattle.window_regions.proofs.table.WindowTable.made.Goals as goal
use Rattle.window_regions.specs.RoundsMade.{AreRounds, AreFewRounds, with_round}

pub invariant_of-self-in-Ok : goal.invariant_of-self-in-Ok
invariant_of-self-in-Ok c =
    let before : List ℕ = c.self.inside.created.items in
    let few : AreFewRounds (with_round c.self.inside.rounds c.args.win) =
    subst AreFewRounds c.in-Some.ensures.0 c.in-Some.ensures.1 in
    let more : AreRounds (before ++ c.args.win ∷ []) (with_round c.self.inside.rounds c.args.win) =
    one_made before c.self.inside.rounds c.args.win c.self.invariant.1 few in (
      c.self.invariant.0,
      subst (λ items. AreRounds items c.in-Some.rounds) (sym
          (c.push_reserved.ensures.items ∙ ap (λ items. items ++ c.args.win ∷ []) c.reserve.ensures.items))
          (subst (AreRounds (before ++ c.args.win ∷ [])) (sym c.in-Some.ensures.0) more),
    )
