use Rattle.sync_board.proofs.PartsKept.{parts_more}
use Rattle.sync_board.proofs.parts.Parts.arrive.Goals as goal

pub returns : goal.returns
returns c = λ layout window entries act creation by here arrives is made within keeps.
    parts_more layout window entries act creation c.args.rank c.args.part c.args.self.now.parts.items
    c.fill.new.parts.items
    by here arrives is made within c.fill.ensures.others c.fill.ensures.filled keeps
