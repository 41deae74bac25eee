use Rattle.std.proofs.Common.{arith}
use Rattle.cell_face.proofs.GreaterFronts.{greater_is}
use Rattle.cell_face.proofs.fronts.raise.Goals as goal

pub returns : goal.returns
returns c =
    greater_is c.args.places.now c.args.others.now _ c.requires c.loop-at.auto.places
    (λ k lt. c.loop-at.invariant.done k (omega arith))
