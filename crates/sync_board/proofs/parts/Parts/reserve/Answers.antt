use Rattle.sync_board.proofs.PartsKept.{parts_same}
use Rattle.sync_board.proofs.parts.Parts.reserve.Goals as goal

pub returns-clause-same : goal.returns-clause-same
returns-clause-same c = λ layout window entries keeps.
    parts_same layout window entries c.args.self.now.parts.items c.make_room.new.parts.items c.make_room.ensures.same
    keeps
