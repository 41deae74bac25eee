use Rattle.std.proofs.Common.{◌<◌, sym, subst, length, refl, List}
use Rattle.std.proofs.lemmas.List.{length-map}
use Rattle.delivery_queue.specs.declared.begun.Begun.{Begun}
use Rattle.delivery_queue.specs.Queues.{Queue}
use Rattle.delivery_queue.proofs.Joined.{touched_in}
use Rattle.delivery_queue.proofs.queue.Pending.keep_touched.Goals as goal

pub returns : goal.returns
returns c =
    let ones : List Begun = c.self.inside.ones in
    let after : List Begun = c.touch.new.self in
    let at : c.args.at < length ones =
    subst (λ n. c.args.at < n) (length-map ones (λ (one : Begun). one.access))
    (subst (λ (queue : Queue). c.args.at < length queue.pending) (sym c.self.view_is) c.requires) in
    let touched = touched_in ones after c.args.at c.args.count at c.touch.ensures in
    rw (← c.self.view_is, touched.0, touched.1) refl

pub invariant_of-self : goal.invariant_of-self
invariant_of-self c =
    let ones : List Begun = c.self.inside.ones in
    let after : List Begun = c.touch.new.self in
    let at : c.args.at < length ones =
    subst (λ n. c.args.at < n) (length-map ones (λ (one : Begun). one.access))
    (subst (λ (queue : Queue). c.args.at < length queue.pending) (sym c.self.view_is) c.requires) in
    rw (touched_in ones after c.args.at c.args.count at c.touch.ensures).0 c.self.invariant
