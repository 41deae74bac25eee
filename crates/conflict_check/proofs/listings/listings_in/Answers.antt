-- One class more.
use Rattle.std.proofs.Common.{◌≡◌, ◌∷◌, [], ap, sym, subst, ◌∙◌}
use Rattle.std.specs.Prelude.{map}
use Rattle.std.specs.List.{All}
use Rattle.std.proofs.lemmas.List.{map-append}
use Rattle.std.proofs.lemmas.List.Elements.{All-push}
use Rattle.first_points.specs.Alike.{judged_by}
use Rattle.access_index.specs.Lists.{classes_in}
use Rattle.access_index.specs.declared.regions.Class.{Class}
use Rattle.conflict_check.specs.Listings.{IsListing}
use Rattle.conflict_check.specs.declared.listings.Listing.{Listing}
use Rattle.conflict_check.proofs.Parts.{taken_next}
use Rattle.conflict_check.proofs.listings.listings_in.Goals as goal

pub loop-class-preserved : goal.loop-class-preserved
loop-class-preserved c =
    let old = c.loop-class.listings.items in
    let one = c.in_ok-listing.listing in
    let own = c.in_ok-listing.ensures.class in
    let places = c.in_ok-listing.ensures.places in
    let pushed = c.in_ok-push_listing.ensures in
    let xs = map judged_by c.args.accesses.now in
    let at = c.loop-class.class-index in
    let listed = c.classes-class-items.result.now in
    let all : listed ≡ classes_in c.args.index.now.classes c.args.region = c.classes-class-items.ensures in
    record {
      classes =
          ap (map (λ (l : Listing). l.class)) pushed
          ∙ map-append (λ (l : Listing). l.class) old (one ∷ [])
          ∙ taken_next (map (λ (l : Listing). l.class) old) (classes_in c.args.index.now.classes c.args.region) listed at
          one.class _ c.loop-class.invariant.classes all own c.loop-class-test.true;
      places = subst (All (λ (l : Listing). IsListing xs c.args.region l.class l.places)) (sym pushed)
          (All-push (λ (l : Listing). IsListing xs c.args.region l.class l.places) old one
          c.loop-class.invariant.places
          (subst (λ (x : Class). IsListing xs c.args.region x one.places) (sym own) places));
    }
