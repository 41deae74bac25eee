-- One more is ordered before the access, or has the label.
use Rattle.std.proofs.Common.{◌≡◌, ◌⊎◌, inl, inr, true, sym, subst, ◌∙◌, arith}
use Rattle.std.proofs.lemmas.Bool.{cases_lt, or_cases, or_parts}
use Rattle.first_points.specs.Alike.{judged_by}
use Rattle.access_sweeps.specs.Labels.{do_stand, label_of}
use Rattle.access_sweeps.specs.Sweeps.{first_at, is_passed}
use Rattle.access_sweeps.proofs.fronts.Passed.first_unlike.Goals as goal

pub loop-at-preserved : goal.loop-at-preserved
loop-at-preserved c k from below = elim (cases_lt k c.loop-at.at) [
  | inl before ↦ c.loop-at.invariant k from before
  | inr after ↦
      let s = c.args.self.now in
      let now : c.loop-at.at ≡ k = omega (arith, below, after) in
      subst (λ n. (is_passed s n (judged_by c.args.b.now) ≡ true)
      ⊎ (do_stand (label_of s.by_operation (first_at s n).access) c.args.label ≡ true)) now
      (elim (or_cases (do_stand (label_of s.by_operation (first_at s c.loop-at.at).access) c.args.label)
      (is_passed s c.loop-at.at (judged_by c.args.b.now))
      (sym c.is_skipped.ensures ∙ c.if-not-is_skipped.false)) [
        | inl label ↦ inr label
        | inr passed ↦ inl passed
      ])
]

pub returns-then-not-is_skipped-clause-unordered : goal.returns-then-not-is_skipped-clause-unordered
returns-then-not-is_skipped-clause-unordered c within =
    let s = c.args.self.now in
    (or_parts (do_stand (label_of s.by_operation (first_at s c.loop-at.at).access) c.args.label)
    (is_passed s c.loop-at.at (judged_by c.args.b.now)) (sym c.is_skipped.ensures ∙ c.if-not-is_skipped.true)).1

pub returns-then-not-is_skipped-clause-unlike : goal.returns-then-not-is_skipped-clause-unlike
returns-then-not-is_skipped-clause-unlike c within =
    let s = c.args.self.now in
    (or_parts (do_stand (label_of s.by_operation (first_at s c.loop-at.at).access) c.args.label)
    (is_passed s c.loop-at.at (judged_by c.args.b.now)) (sym c.is_skipped.ensures ∙ c.if-not-is_skipped.true)).0
