use Rattle.std.proofs.Common.{◌<◌, List, length}
use Rattle.delivery_queue.specs.declared.begun.Begun.{Begun}
use Rattle.delivery_queue.specs.Blocks.{ones_in}
use Rattle.delivery_queue.proofs.Joined.{removed_kept}
use Rattle.delivery_queue.proofs.groups.GroupPart.remove.Goals as goal

pub invariant_of-self-else-changed : goal.invariant_of-self-else-changed
invariant_of-self-else-changed g c =
    let ones : List Begun = ones_in g.P.Part.ones c.self.inside.parts.items in
    let at : c.args.at < length ones = rw c.self.view_is c.requires in
    rw c.remove_at-changed.ensures
    (removed_kept c.self.inside.marks c.self.inside.count ones c.args.at at c.self.invariant)
