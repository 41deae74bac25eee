use Rattle.std.proofs.Common.{sym, rules, ◌<◌, ◌^◌}
use Rattle.access_steps.proofs.OneTouch.{updates_once, moves_once}
use Rattle.access_steps.proofs.touches.update_cell.Goals as goal

pub returns-then-is_whole_sum-clause-touch : goal.returns-then-is_whole_sum-clause-touch
returns-then-is_whole_sum-clause-touch g c =
    let small : c.add.result.bits < 2 ^ 32 = search rules in
    updates_once _ _ c.args.cell c.add.result c.args.change.now _
    (sym (c.is_whole_sum.ensures.sum c.if-is_whole_sum.true c.add.result.bits small)) c.add.ensures.told_state
    c.add.ensures.updates

pub returns-in-Err-clause-touch : goal.returns-in-Err-clause-touch
returns-in-Err-clause-touch g c = moves_once _ _ _ c.args.cell c.load-seen.result c.in-Err.moved.seen
    c.load-seen.ensures.looks c.in-Err.ensures.cases
