-- One more is ordered before the access.
use Rattle.std.proofs.Common.{◌≡◌, inl, inr, true, sym, subst, ◌∙◌, arith}
use Rattle.std.proofs.lemmas.Bool.{cases_lt}
use Rattle.order_rules.specs.Ordered.{JudgedAccess, is_ordered}
use Rattle.first_points.specs.Alike.{judged_by}
use Rattle.vector_clocks.specs.Marks.{before_in}
use Rattle.access_sweeps.specs.Sweeps.{is_passed}
use Rattle.access_sweeps.proofs.fronts.Passed.first_unordered.Goals as goal

pub loop-at-preserved : goal.loop-at-preserved
loop-at-preserved c k from below = elim (cases_lt k c.loop-at.at) [
  | inl before ↦ c.loop-at.invariant k from before
  | inr after ↦
      let now : c.loop-at.at ≡ k = omega (arith, below, after) in
      subst (λ n. is_passed c.args.self.now n (judged_by c.args.b.now) ≡ true) now
      (subst (λ (x : JudgedAccess). is_ordered (before_in c.args.self.now.clocks.now) x (judged_by c.args.b.now) ≡ true)
      c.access.ensures (sym c.is_ordered.ensures ∙ c.if-not-is_ordered.false))
]
