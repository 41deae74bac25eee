use Rattle.std.proofs.Common.{◌≡◌, ◌∙◌, ◌<◌, sym, ap, subst, ℕ, [], get_or, length, map}
use Rattle.std.proofs.lemmas.List.{length-map, nil_from_length}
use Rattle.delivery_queue.specs.Blocks.{joined, ones_in}
use Rattle.delivery_queue.proofs.Joined.{left_out, map_remove, part_here}
use Rattle.delivery_queue.proofs.searches.drop_empty.Goals as goal

pub returns-then-part-len : goal.returns-then-part-len
returns-then-part-len g c =
    let f = g.P.Part.ones in
    let parts = c.args.parts.now.items in
    let at = c.args.part in
    let here : f c.index.result.now ≡ get_or (map f parts) at [] =
    part_here f parts at c.index.result.now c.requires c.index.ensures in
    let nothing : length (f c.index.result.now) ≡ 0 = sym c.len.ensures ∙ c.if-len-eq0.true in
    let empty : get_or (map f parts) at [] ≡ [] = sym here ∙ nil_from_length (f c.index.result.now) nothing in
    let exists : at < length (map f parts) =
    subst (λ (n : ℕ). at < n) (sym (length-map parts f)) c.requires in
    ap (ones_in f) c.remove.ensures.items ∙ ap joined (map_remove f parts at)
    ∙ left_out (map f parts) at exists empty
