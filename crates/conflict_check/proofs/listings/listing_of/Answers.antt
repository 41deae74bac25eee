-- The ordinals, counted from the first access of the rank on.
use Rattle.std.proofs.Common.{◌+◌, List, ℕ, ap, sym, subst, ◌∙◌}
use Rattle.std.specs.Prelude.{map}
use Rattle.first_points.specs.Alike.{judged_by}
use Rattle.conflict_check.specs.Listings.{IsListing}
use Rattle.conflict_check.proofs.Ordinals.{listing}
use Rattle.conflict_check.proofs.Readings.{below_from}
use Rattle.conflict_check.proofs.listings.listing_of.Goals as goal

pub returns-clause-places : goal.returns-clause-places
returns-clause-places c =
    let from = c.accesses_below-from.result in
    let class = c.args.class in
    let accesses = c.args.accesses.now in
    subst (IsListing (map judged_by accesses) c.args.region class)
    (sym (c.in_ok-places.ensures ∙ ap (λ (l : List ℕ). map (λ o. from + o) l) c.ordinals.ensures))
    (listing (map judged_by accesses) c.requires.ascending c.args.index.now c.requires.index c.args.region class from
    (below_from accesses class.rank from c.accesses_below-from.ensures))
