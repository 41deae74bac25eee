use Rattle.sync_board.proofs.RangesKept.{fewer}
use Rattle.sync_board.proofs.regions.Regions.detach.Goals as goal

pub returns : goal.returns
returns c = λ ranges keeps test.
    rw (c.remove.ensures, c.remove_from.ensures)
    (fewer ranges c.args.self.now.apart c.args.self.now.others.items c.args.base keeps test)
