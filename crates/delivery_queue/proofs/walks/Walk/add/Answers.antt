use Rattle.delivery_queue.proofs.LinksKept.{led_on}
use Rattle.delivery_queue.proofs.walks.Walk.add.Goals as goal

pub returns-clause-walked : goal.returns-clause-walked
returns-clause-walked c = λ pending walked link.
    let walk = c.args.self.now in
    rw (c.push_reserved.ensures.items, c.reserve.ensures.items)
    (led_on pending walk.start walk.gaps.items walk.end c.args.earlier walked c.requires link)
