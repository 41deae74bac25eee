use Rattle.std.proofs.Common.{arith}
use Rattle.list_laws.proofs.Options.{if_some_weaker}
use Rattle.sync_board.proofs.SideSteps.{with_start_past, with_start_before}
use Rattle.sync_board.proofs.sides.Side.completed_with_start.Goals as goal

pub returns-then-len-self : goal.returns-then-len-self
returns-then-len-self c = if_some_weaker _ _ (λ new more. with_start_past c.args.self.now c.args.group.now new
    (omega arith) more) c.raised.result c.raised.ensures

pub returns-else-len-self : goal.returns-else-len-self
returns-else-len-self c = with_start_before c.args.self.now c.args.group.now (omega arith)
