use Rattle.std.proofs.Common.{◌≡◌, ◌-◌, ◌∙◌, ap, List, [], ◌∷◌, ◌++◌, get_or, set, length, map, arith, rules}
use Rattle.std.proofs.lemmas.List.{length-map, map-set}
use Rattle.std.proofs.Math.Seq.{map-set_same}
use Rattle.delivery_queue.specs.declared.begun.Begun.{Begun}
use Rattle.delivery_queue.specs.Blocks.{joined, ones_in}
use Rattle.delivery_queue.proofs.Joined.{part_here, pushed_in_last}
use Rattle.delivery_queue.proofs.searches.push_to.Goals as goal

pub returns-in_ok-push-clause-ok : goal.returns-in_ok-push-clause-ok
returns-in_ok-push-clause-ok g c =
    let f = g.P.Part.ones in
    let parts = c.args.parts.now.items in
    let last = c.len-count.result - 1 in
    let one : Begun = record { access = c.args.access; touched = 0 } in
    let some = c.if-count-gt0.true in
    let counted : c.len-count.result ≡ length parts = search (rules, c.len-count.ensures) in
    let here : f c.index_mut.result.now ≡ get_or (map f parts) last [] =
    part_here f parts last c.index_mut.result.now (omega arith) c.index_mut.ensures.value in
    let mapped : length (map f parts) ≡ length parts = length-map parts f in
    ap joined (map-set f parts last c.push.new.self)
    ∙ ap (λ (after : List Begun). joined (set (map f parts) last after))
    (c.in_ok-push.ensures.ok ∙ ap (λ (ones : List Begun). ones ++ one ∷ []) here)
    ∙ pushed_in_last (map f parts) last one (omega arith)

pub returns-in_err-push-clause-err : goal.returns-in_err-push-clause-err
returns-in_err-push-clause-err g c =
    let f = g.P.Part.ones in
    let parts = c.args.parts.now.items in
    let last = c.len-count.result - 1 in
    let some = c.if-count-gt0.true in
    let counted : c.len-count.result ≡ length parts = search (rules, c.len-count.ensures) in
    let same : f c.push.new.self ≡ f c.index_mut.result.now = c.in_err-push.ensures.err in
    let unchanged : ones_in f (set parts last c.push.new.self) ≡ ones_in f parts =
    ap joined (map-set_same f parts last c.push.new.self c.index_mut.result.now
    (same ∙ ap f c.index_mut.ensures.value)) in
    search (rules, unchanged)
