-- An item is kept of each touch.
use Rattle.std.proofs.Common.{◌+◌, ◌-◌, length, ◌∙◌, ap}
use Rattle.delivery_queue.proofs.TouchCounts.{kept_count}
use Rattle.delivery_queue.proofs.deliveries.touch_pending.Goals as goal

pub returns-clause-count : goal.returns-clause-count
returns-clause-count g c =
    kept_count c.args.layout.now c.args.one.now.access c.args.call.now c.args.from
    (c.touch_on.result.next - c.args.from) _ _ _ _ _ _ c.touch_on.ensures.touches
    ∙ ap (λ items. length items + (c.touch_on.result.next - c.args.from)) c.reserve.ensures.kept
