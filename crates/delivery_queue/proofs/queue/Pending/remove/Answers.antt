use Rattle.std.proofs.Common.{refl}
use Rattle.delivery_queue.specs.declared.begun.Begun.{Begun}
use Rattle.delivery_queue.proofs.Joined.{map_remove}
use Rattle.delivery_queue.proofs.queue.Pending.remove.Goals as goal

pub returns : goal.returns
returns c =
    let ones = c.self.inside.ones in
    rw (
      ← c.self.view_is,
      c.remove.ensures.removed,
      map_remove (λ (one : Begun). one.access) ones c.args.at,
      map_remove (λ (one : Begun). one.touched) ones c.args.at,
    ) refl
