use Rattle.std.proofs.Common.{◌∙◌}
use Rattle.sync_board.proofs.PartsKept.{shape_made}
use Rattle.sync_board.proofs.parts.Parts.shape.Goals as goal

pub returns : goal.returns
returns c = λ board row creation all flavor fits keeps.
    shape_made board row creation c.args.ranks c.args.self.now.parts.items
    (record { flavor = c.args.flavor; parts = c.from_vec.result })
    (c.from_vec.ensures ∙ c.in_ok-parts.ensures.parts) c.in_ok-parts.ensures.dynamic all flavor fits keeps
