use Rattle.std.proofs.Common.{◌≡◌, ◌∙◌, ap, sym, subst, List, Some, None}
use Rattle.std.specs.List.{position}
use Rattle.rank_rules.specs.declared.pending.PendingAccess.{PendingAccess}
use Rattle.rank_rules.specs.Pending.{awaited, way}
use Rattle.delivery_queue.specs.Blocks.{accesses_of}
use Rattle.delivery_queue.specs.Queues.{Queue}
use Rattle.delivery_queue.specs.Soughts.{is_sought}
use Rattle.delivery_queue.proofs.FirstFound.{awaited_found}
use Rattle.delivery_queue.proofs.queue.Pending.next_for.Goals as goal

pub returns-in-Some-clause-next : goal.returns-in-Some-clause-next
returns-in-Some-clause-next c =
    let pending : List PendingAccess = accesses_of c.self.inside.ones in
    let sought = is_sought c.awaited_by.result in
    let at = c.in-Some.at in
    let found : Some at ≡ position sought pending =
    c.in-Some.ensures.place in
    let end : c.way.result ≡ way pending at =
    subst (λ (queue : Queue). c.way.result ≡ way queue.pending at) (sym c.self.view_is) c.way.ensures.end in
    ap Some end
    ∙ sym (awaited_found c.self.inside.requests c.args.call.now pending sought (Some at) c.awaited_by.ensures found)
    ∙ ap (λ (queue : Queue). awaited queue.requests c.args.call.now queue.pending) c.self.view_is

pub returns-in-None-clause-next : goal.returns-in-None-clause-next
returns-in-None-clause-next c =
    let pending : List PendingAccess = accesses_of c.self.inside.ones in
    let sought = is_sought c.awaited_by.result in
    let found : None ≡ position sought pending =
    c.in-None.ensures.place in
    sym (awaited_found c.self.inside.requests c.args.call.now pending sought None c.awaited_by.ensures found)
    ∙ ap (λ (queue : Queue). awaited queue.requests c.args.call.now queue.pending) c.self.view_is
