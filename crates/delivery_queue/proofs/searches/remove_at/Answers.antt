use Rattle.std.proofs.Common.{◌≡◌, ◌∙◌, ◌<◌, ap, subst, ℕ, List, [], get_or, set, map, length}
use Rattle.std.specs.List.{remove}
use Rattle.std.proofs.lemmas.List.{length-map, map-set}
use Rattle.delivery_queue.specs.declared.begun.Begun.{Begun}
use Rattle.delivery_queue.specs.Blocks.{joined, IsPlace}
use Rattle.delivery_queue.proofs.Joined.{part_here, removed_in_block}
use Rattle.delivery_queue.proofs.searches.remove_at.Goals as goal

pub returns : goal.returns
returns g c =
    let f = g.P.Part.ones in
    let place = c.place_of-place in
    let parts = c.args.parts.now.items in
    let at = place.result.part in
    let offset = place.result.offset in
    let stands : IsPlace (map f parts) c.args.at at offset =
    subst (λ all. IsPlace (map f all) c.args.at at offset) c.deref.ensures.value place.ensures in
    let exists : at < length parts = subst (λ (n : ℕ). at < n) (length-map parts f) stands.exists in
    let here : f c.index_mut.result.now ≡ get_or (map f parts) at [] =
    part_here f parts at c.index_mut.result.now exists c.index_mut.ensures.value in
    c.drop_empty.ensures
    ∙ ap joined (map-set f parts at c.remove.new.self)
    ∙ ap (λ (after : List Begun). joined (set (map f parts) at after))
    (c.remove.ensures ∙ ap (λ (ones : List Begun). remove ones offset) here)
    ∙ removed_in_block (map f parts) c.args.at at offset stands
