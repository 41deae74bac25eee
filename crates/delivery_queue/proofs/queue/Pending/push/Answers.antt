use Rattle.std.proofs.Common.{List, [], ◌∷◌}
use Rattle.std.proofs.lemmas.List.{map-append}
use Rattle.delivery_queue.specs.declared.begun.Begun.{Begun}
use Rattle.delivery_queue.specs.Blocks.{accesses_of}
use Rattle.delivery_queue.proofs.LinksKept.{led_more}
use Rattle.delivery_queue.proofs.queue.Pending.push.Goals as goal

pub invariant_of-self-2 : goal.invariant_of-self-2
invariant_of-self-2 c =
    let ones : List Begun = c.self.inside.ones in
    let added : Begun = record { access = c.args.one; touched = 0 } in
    let walk = c.self.inside.walk in
    rw (c.in_ok-push.ensures.ok, map-append (λ (one : Begun). one.access) ones (added ∷ []))
    (led_more (accesses_of ones) (c.args.one ∷ []) walk.start walk.gaps.items walk.end c.self.invariant)
