use Rattle.std.proofs.Common.{arith}
use Rattle.sync_board.specs.Rounds.{asserts_in, flavor_in}
use Rattle.sync_board.proofs.RoundSteps.{values_length}
use Rattle.sync_board.proofs.rounds.Rounds.begun.Goals as goal

pub returns-in-Creation : goal.returns-in-Creation
returns-in-Creation c = λ d kept. let e = values_length flavor_in c.args.self.now.created.items d.creations kept.created
    in rw c.in-Creation.is (omega (arith, e))

pub returns-in-Fence : goal.returns-in-Fence
returns-in-Fence c = λ d kept. let e = values_length asserts_in c.args.self.now.fences.items d.fences kept.fences in rw
    c.in-Fence.is (omega (arith, e))
