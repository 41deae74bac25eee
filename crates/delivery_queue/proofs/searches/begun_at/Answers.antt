use Rattle.std.proofs.Common.{◌≡◌, ◌∙◌, ◌<◌, sym, ap, subst, ℕ, List, [], get_or, slice_get, map, length}
use Rattle.std.proofs.lemmas.List.{length-map}
use Rattle.delivery_queue.specs.declared.begun.Begun.{Begun}
use Rattle.delivery_queue.proofs.Joined.{get_at, part_here}
use Rattle.delivery_queue.proofs.searches.begun_at.Goals as goal

pub returns : goal.returns
returns g c =
    let f = g.P.Part.ones in
    let place = c.place_of-place in
    let part = c.index-parts-place.result in
    let exists : place.result.part < length c.args.parts.now =
    subst (λ (n : ℕ). place.result.part < n) (length-map c.args.parts.now f) place.ensures.exists in
    let here : f part ≡ get_or (map f c.args.parts.now) place.result.part [] =
    part_here f c.args.parts.now place.result.part part exists c.index-parts-place.is in
    get_at (map f c.args.parts.now) c.args.at place.result.part place.result.offset place.ensures
    ∙ ap (λ (ones : List Begun). slice_get ones place.result.offset) (sym here)
    ∙ c.at.ensures
