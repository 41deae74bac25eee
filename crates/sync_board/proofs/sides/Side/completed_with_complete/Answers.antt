use Rattle.std.proofs.Common.{List, Bool, subst, arith}
use Rattle.list_laws.proofs.Options.{if_some_weaker}
use Rattle.sync_board.specs.Sides.{IsRaised}
use Rattle.sync_board.proofs.SideSteps.{with_complete_of, with_complete_past}
use Rattle.sync_board.proofs.sides.Side.completed_with_complete.Goals as goal

pub returns-then-at-len : goal.returns-then-at-len
returns-then-at-len c = if_some_weaker _ _
    (λ new more.
    let P : List Bool → Type 0 = λ named. IsRaised c.args.self.now.completed_to named new in
    with_complete_of c.args.self.now new c.index.result.now (omega arith) (subst P c.index.ensures more))
    c.raised.result c.raised.ensures

pub returns-else-at-len : goal.returns-else-at-len
returns-else-at-len c = with_complete_past c.args.self.now (omega arith)
