use Rattle.std.proofs.Common.{List}
use Rattle.delivery_queue.specs.declared.begun.Begun.{Begun}
use Rattle.delivery_queue.specs.Blocks.{ones_in}
use Rattle.delivery_queue.proofs.Joined.{touched_kept}
use Rattle.delivery_queue.proofs.groups.GroupPart.touch.Goals as goal

pub invariant_of-self : goal.invariant_of-self
invariant_of-self g c =
    let before : List Begun = ones_in g.P.Part.ones c.self.inside.parts.items in
    let after : List Begun = ones_in g.P.Part.ones c.touch_at.new.parts.items in
    touched_kept c.self.inside.marks c.self.inside.count before after c.args.at c.args.count
    (rw c.self.view_is c.requires) c.touch_at.ensures c.self.invariant
