use Rattle.std.proofs.Common.{◌≡◌}
use Rattle.std.specs.Prelude.{map, take}
use Rattle.std.specs.List.{All}
use Rattle.first_points.specs.Alike.{judged_by}
use Rattle.access_index.specs.Lists.{classes_in}
use Rattle.conflict_check.specs.Listings.{IsListing}
use Rattle.conflict_check.specs.declared.listings.Listing.{Listing}
use Rattle.conflict_check.proofs.listings.listings_in.Given as goal

-- the classes so far have their listings
abbrev pub invariant-loop-class : goal.invariant-loop-class
invariant-loop-class l = record {
  classes : map (λ (x : Listing). x.class) l.listings.items
      ≡ take l.class-index (classes_in l.index.classes l.region);
  places : All (λ (x : Listing). IsListing (map judged_by l.accesses) l.region x.class x.places) l.listings.items;
}
