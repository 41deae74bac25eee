-- One listing more is done.
use Rattle.std.proofs.Common.{◌≡◌, inl, inr, sym, subst, ◌∙◌, arith, get_or}
use Rattle.std.proofs.lemmas.Bool.{cases_lt}
use Rattle.conflict_check.specs.Listings.{AreDone, IsListing, judged_of}
use Rattle.conflict_check.specs.declared.listings.Listing.{Listing}
use Rattle.conflict_check.proofs.Leasts.{done_still}
use Rattle.conflict_check.proofs.Readings.{default_free}
use Rattle.conflict_check.proofs.partners.sweep_from.Goals as goal

pub sweep_pair-requires-clause-second : goal.sweep_pair-requires-clause-second
sweep_pair-requires-clause-second c =
    subst (λ (l : Listing). IsListing (judged_of c.args.s.now) c.args.region l.class l.places) (sym c.b-item.is)
    (c.requires.listings c.loop-b.b-index c.b-item.result c.loop-b-test.true)

pub loop-b-preserved : goal.loop-b-preserved
loop-b-preserved c =
    let s = c.args.s.now in
    let old = c.loop-b.invariant in
    let one = c.sweep_pair.ensures in record {
      long = one.long ∙ old.long;
      falls = λ b.
          let now = one.falls b in
          let before = old.falls b in
          omega (arith, now, before);
      partners = λ are. one.partners (old.partners are);
      done = λ k d below. elim (cases_lt k c.loop-b.b-index) [
        | inl earlier ↦ done_still s c.args.region c.args.a.now (get_or c.args.listings.now k d) c.loop-b.best
            c.sweep_pair.new.best one.falls (old.done k d earlier)
        | inr later ↦
            let same : c.loop-b.b-index ≡ k = omega (arith, below, later) in
            subst (λ n. AreDone s c.args.region c.sweep_pair.new.best c.args.a.now (get_or c.args.listings.now n d)) same
            (subst (λ (l : Listing). AreDone s c.args.region c.sweep_pair.new.best c.args.a.now l)
            (c.b-item.is ∙ default_free c.args.listings.now c.loop-b.b-index c.b-item.result d c.loop-b-test.true)
            one.done)
      ];
    }
