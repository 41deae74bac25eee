use Rattle.std.proofs.Common.{◌≡◌, ◌∙◌, ap, List, [], ◌∷◌, ◌++◌, map}
use Rattle.std.proofs.lemmas.List.{map-append}
use Rattle.delivery_queue.specs.declared.begun.Begun.{Begun}
use Rattle.delivery_queue.specs.Blocks.{joined, ones_in}
use Rattle.delivery_queue.proofs.Joined.{joined_append}
use Rattle.delivery_queue.proofs.searches.push_part.Goals as goal

pub returns-clause-ok : goal.returns-clause-ok
returns-clause-ok g c =
    let f = g.P.Part.ones in
    let parts = c.args.parts.now.items in
    let one : Begun = record { access = c.args.access; touched = 0 } in
    let pushed : f c.push.new.self ≡ one ∷ [] =
    c.in_ok-push.ensures.ok ∙ ap (λ (ones : List Begun). ones ++ one ∷ []) c.new-part.ensures in
    ap (ones_in f) c.push_reserved.ensures.items
    ∙ ap (λ all. ones_in f (all ++ c.push.new.self ∷ [])) c.reserve.ensures.items
    ∙ ap joined (map-append f parts (c.push.new.self ∷ []))
    ∙ ap (λ (ones : List Begun). joined (map f parts ++ ones ∷ [])) pushed
    ∙ joined_append (map f parts) ((one ∷ []) ∷ [])
