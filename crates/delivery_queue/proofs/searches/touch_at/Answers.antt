use Rattle.std.proofs.Common.{◌≡◌, ◌∙◌, ◌<◌, sym, ap, subst, ℕ, List, [], get_or, set, slice_get, Some, map, length}
use Rattle.std.proofs.lemmas.List.{length-map, map-set}
use Rattle.delivery_queue.specs.declared.begun.Begun.{Begun}
use Rattle.delivery_queue.specs.Blocks.{joined, IsPlace}
use Rattle.delivery_queue.proofs.Joined.{get_at, part_here, set_in_block}
use Rattle.delivery_queue.proofs.searches.touch_at.Goals as goal

pub returns : goal.returns
returns g c = λ one e.
    let f = g.P.Part.ones in
    let place = c.place_of-place in
    let parts = c.args.parts.now.items in
    let at = place.result.part in
    let offset = place.result.offset in
    let place_is : IsPlace (map f parts) c.args.at at offset =
    subst (λ all. IsPlace (map f all) c.args.at at offset) c.deref.ensures.value place.ensures in
    let exists : at < length parts = subst (λ (n : ℕ). at < n) (length-map parts f) place_is.exists in
    let block : List Begun = f c.index_mut.result.now in
    let here : block ≡ get_or (map f parts) at [] =
    part_here f parts at c.index_mut.result.now exists c.index_mut.ensures.value in
    let stands : slice_get block offset ≡ Some one =
    ap (λ (ones : List Begun). slice_get ones offset) here
    ∙ sym (get_at (map f parts) c.args.at at offset place_is) ∙ e in
    let other : Begun = record { access = one.access; touched = c.args.count } in
    let touched : f c.touch.new.self ≡ set block offset other = c.touch.ensures one stands in
    ap joined (map-set f parts at c.touch.new.self)
    ∙ ap (λ (after : List Begun). joined (set (map f parts) at after))
    (touched ∙ ap (λ (ones : List Begun). set ones offset other) here)
    ∙ set_in_block (map f parts) c.args.at at offset other place_is
