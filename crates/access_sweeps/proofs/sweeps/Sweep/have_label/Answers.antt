-- One more has the label.
use Rattle.std.proofs.Common.{◌≡◌, ◌<◌, inl, inr, true, ap, length, sym, subst, ◌∙◌, arith}
use Rattle.std.specs.Prelude.{slice_index}
use Rattle.std.proofs.lemmas.Bool.{cases_lt}
use Rattle.order_rules.specs.Ordered.{JudgedAccess}
use Rattle.access_sweeps.specs.Labels.{do_stand, label_of}
use Rattle.access_sweeps.specs.Places.{judged_at}
use Rattle.access_sweeps.specs.Sweeps.{accesses_of}
use Rattle.access_sweeps.proofs.Partners.{judged_read}
use Rattle.access_sweeps.proofs.sweeps.Sweep.have_label.Goals as goal

pub loop-at-preserved : goal.loop-at-preserved
loop-at-preserved c k below = elim (cases_lt k c.loop-at.at) [
  | inl earlier ↦ c.loop-at.invariant k earlier
  | inr later ↦
      let s = c.args.self.now in
      let places = c.args.places.now in
      let at = c.loop-at.at in
      let same : at ≡ k = omega (arith, below, later) in
      let there : slice_index places at < length s.accesses.now = c.requires at c.loop-at-test.true in
      let own = c.label_of.ensures
      ∙ ap (λ (x : JudgedAccess). label_of s.by_operation x.access)
      (judged_read s.accesses.now (slice_index places at) c.index-self-places.result there) in
      subst (λ n. do_stand (label_of s.by_operation (judged_at (accesses_of s) (slice_index places n)).access)
      c.args.label ≡ true) same
      (sym (ap (λ l. do_stand l c.args.label) own) ∙ sym c.do_stand.ensures ∙ c.if-not-do_stand.false)
]
