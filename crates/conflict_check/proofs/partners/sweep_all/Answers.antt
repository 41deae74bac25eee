-- One listing more is done.
use Rattle.std.proofs.Common.{◌≡◌, inl, inr, sym, subst, ◌∙◌, arith, get_or}
use Rattle.std.specs.List.{All}
use Rattle.std.proofs.lemmas.Bool.{cases_lt}
use Rattle.conflict_check.specs.Listings.{AreDone, IsListing, judged_of}
use Rattle.conflict_check.specs.declared.listings.Listing.{Listing}
use Rattle.conflict_check.proofs.Leasts.{done_still}
use Rattle.conflict_check.proofs.Readings.{default_free}
use Rattle.conflict_check.proofs.partners.sweep_all.Goals as goal

pub sweep_from-requires-clause-first : goal.sweep_from-requires-clause-first
sweep_from-requires-clause-first c =
    subst (λ (l : Listing). IsListing (judged_of c.args.s.now) c.args.region l.class l.places) (sym c.a-item.is)
    (c.requires.listings c.loop-a.a-index c.a-item.result c.loop-a-test.true)

pub loop-a-preserved : goal.loop-a-preserved
loop-a-preserved c =
    let s = c.args.s.now in
    let listings = c.args.listings.now in
    let old = c.loop-a.invariant in
    let one = c.sweep_from.ensures in record {
      long = one.long ∙ old.long;
      falls = λ b.
          let now = one.falls b in
          let before = old.falls b in
          omega (arith, now, before);
      partners = λ are. one.partners (old.partners are);
      done = λ k d below. elim (cases_lt k c.loop-a.a-index) [
        | inl earlier ↦ λ m e within. done_still s c.args.region (get_or listings k d) (get_or listings m e)
            c.loop-a.best c.sweep_from.new.best one.falls (old.done k d earlier m e within)
        | inr later ↦
            let same : c.loop-a.a-index ≡ k = omega (arith, below, later) in
            subst (λ n. All (λ (b : Listing). AreDone s c.args.region c.sweep_from.new.best (get_or listings n d) b)
            listings) same
            (subst (λ (l : Listing). All (λ (b : Listing). AreDone s c.args.region c.sweep_from.new.best l b) listings)
            (c.a-item.is ∙ default_free listings c.loop-a.a-index c.a-item.result d c.loop-a-test.true) one.done)
      ];
    }
