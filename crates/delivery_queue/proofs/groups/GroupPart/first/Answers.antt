use Rattle.std.proofs.Common.{sym}
use Rattle.delivery_queue.specs.Blocks.{ones_in}
use Rattle.delivery_queue.specs.Soughts.{is_sought}
use Rattle.delivery_queue.proofs.FirstFound.{none_marked}
use Rattle.delivery_queue.proofs.groups.GroupPart.first.Goals as goal

pub returns-else-may_hold-clause-place : goal.returns-else-may_hold-clause-place
returns-else-may_hold-clause-place g c =
    rw (← c.self.view_is)
    (sym (none_marked c.self.inside.marks (is_sought c.args.sought.now)
    (ones_in g.P.Part.ones c.self.inside.parts.items) c.self.invariant.marked
    (c.may_hold.ensures c.if-may_hold.false)))
