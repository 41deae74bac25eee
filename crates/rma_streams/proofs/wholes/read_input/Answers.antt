use Rattle.std.proofs.Common.{◌++◌, take}
use Rattle.list_laws.proofs.Numbers.{OnErr_always}
use Rattle.rma_streams.specs.Moves.{TookSome}
use Rattle.rma_streams.proofs.MoveLemmas.{Took-append}
use Rattle.rma_streams.proofs.wholes.read_input.Goals as goal

pub returns-in_err-extend_from_slice-clause-lost :
    goal.returns-in_err-extend_from_slice-clause-lost
returns-in_err-extend_from_slice-clause-lost g c =
    let lost : TookSome (g.S.Source.left c.args.source.now) (g.S.Source.left c.read.new.self) = (
      c.turns.bytes.items ++ take c.in_ok-count.count c.read.new.buf,
      Took-append (g.S.Source.left c.args.source.now) c.turns.bytes.items (g.S.Source.left c.turns.source)
          (take c.in_ok-count.count c.read.new.buf) (g.S.Source.left c.read.new.self)
          c.turns.invariant.took c.in_ok-count.ensures.moved,
    )
    in OnErr_always _ _ lost
