use Rattle.std.proofs.Common.{◌≡◌, ◌∙◌, sym, ap, List}
use Rattle.std.specs.List.{position}
use Rattle.delivery_queue.specs.declared.begun.Begun.{Begun}
use Rattle.delivery_queue.specs.Soughts.{is_sought}
use Rattle.delivery_queue.proofs.FirstFound.{mapped_position, none_marked}
use Rattle.delivery_queue.proofs.blocks.BlockPart.first.Goals as goal

pub returns-else-may_hold-clause-place : goal.returns-else-may_hold-clause-place
returns-else-may_hold-clause-place c =
    rw (← c.self.view_is)
    (sym (none_marked c.self.inside.marks (is_sought c.args.sought.now) c.self.inside.ones.items c.self.invariant
    (c.may_hold.ensures c.if-may_hold.false)))

pub returns-then-may_hold-clause-place : goal.returns-then-may_hold-clause-place
returns-then-may_hold-clause-place c =
    let p = is_sought c.args.sought.now in
    let found : c.first_of.result ≡ position (λ (one : Begun). p one.access) c.self.inside.ones.items =
    c.first_of.ensures.place
    ∙ ap (λ (ones : List Begun). position (λ (one : Begun). p one.access) ones) c.deref.ensures.value in
    rw (← c.self.view_is) (found ∙ sym (mapped_position p c.self.inside.ones.items))
