-- The listings of a region are done.
use Rattle.std.proofs.Common.{List, subst}
use Rattle.std.specs.List.{All}
use Rattle.conflict_check.specs.Listings.{AreDone}
use Rattle.conflict_check.specs.declared.listings.Listing.{Listing}
use Rattle.conflict_check.proofs.Leasts.{region_done}
use Rattle.conflict_check.proofs.partners.sweep_region.Goals as goal

pub returns-clause-done : goal.returns-clause-done
returns-clause-done c =
    region_done c.args.s.now c.args.index.now c.args.region c.sweep_all.new.best c.in_ok-listings.listings.items
    c.requires.ascending c.requires.index c.in_ok-listings.ensures.classes c.in_ok-listings.ensures.places
    (subst (λ (l : List Listing). All (λ (a : Listing). All
    (λ (b : Listing). AreDone c.args.s.now c.args.region c.sweep_all.new.best a b) l) l) c.as_slice.ensures.value
    c.sweep_all.ensures.done)
