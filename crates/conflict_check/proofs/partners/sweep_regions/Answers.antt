-- One region more is done.
use Rattle.std.proofs.Common.{◌≡◌, ◌<◌, List, inl, inr, ap, length, subst, ◌∙◌, arith, get_or}
use Rattle.std.proofs.lemmas.Bool.{cases_lt}
use Rattle.access_index.specs.declared.regions.Region.{Region}
use Rattle.access_index.specs.declared.regions.Region.TheVariants.{Block}
use Rattle.conflict_check.specs.Listings.{IsDone}
use Rattle.conflict_check.proofs.Leasts.{all_least, region_still}
use Rattle.conflict_check.proofs.Readings.{default_free}
use Rattle.conflict_check.proofs.partners.sweep_regions.Goals as goal

pub loop-region-preserved : goal.loop-region-preserved
loop-region-preserved c =
    let s = c.args.s.now in
    let regions = c.args.index.now.regions in
    let listed = c.regions-region-items.result.now in
    let at = c.loop-region.region-index in
    let old = c.loop-region.invariant in
    let one = c.sweep_region.ensures in
    let best = c.sweep_region.new.best in
    let none : Region = Block 0 0 in record {
      long = one.long ∙ old.long;
      partners = λ are. one.partners (old.partners are);
      done = λ k d below. elim (cases_lt k at) [
        | inl earlier ↦ region_still s (get_or regions k d) c.loop-region.best best one.falls (old.done k d earlier)
        | inr later ↦
            let same : at ≡ k = omega (arith, below, later) in
            subst (λ n. IsDone s best (get_or regions n d)) same
            (subst (λ (l : List Region). IsDone s best (get_or l at d)) c.regions-region-items.ensures
            (subst (IsDone s best) (default_free listed at none d c.loop-region-test.true)
            c.in_ok-sweep_region.ensures.done))
      ];
    }

pub returns-clause-least : goal.returns-clause-least
returns-clause-least c =
    let s = c.args.s.now in
    let regions = c.args.index.now.regions in
    let end = c.loop-region-test.false in
    let long = ap length c.regions-region-items.ensures in
    all_least s c.args.index.now c.loop-region.best c.requires.index
    (λ region has.
    let low : has.0 < length regions = has.1 in
    subst (IsDone s c.loop-region.best) has.2
    (c.loop-region.invariant.done has.0 region (omega (arith, low, end, long))))
