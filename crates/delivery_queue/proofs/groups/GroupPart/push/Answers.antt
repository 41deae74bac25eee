use Rattle.std.proofs.Common.{List, arith}
use Rattle.delivery_queue.specs.declared.begun.Begun.{Begun}
use Rattle.delivery_queue.specs.Blocks.{ones_in}
use Rattle.delivery_queue.proofs.Joined.{pushed_kept}
use Rattle.delivery_queue.proofs.groups.GroupPart.push.Goals as goal

pub invariant_of-self-2 : goal.invariant_of-self-2
invariant_of-self-2 g c =
    let few = c.self.invariant.few in
    let more = c.if-self.false in
    let added : Begun = record { access = c.args.access; touched = 0 } in
    let ones : List Begun = ones_in g.P.Part.ones c.self.inside.parts.items in
    rw c.in_ok-push_to.ensures.ok
    (pushed_kept c.self.inside.marks c.with-self-inside.result c.self.inside.count ones added (omega arith)
    c.with-self-inside.ensures.kept c.with-self-inside.ensures.added c.self.invariant)
