use Rattle.std.proofs.Common.{◌+◌, arith}
use Rattle.run_report.specs.Parts.{number_found}
use Rattle.run_report.proofs.Walks.{begins_writing, goes_on_writing, ends_writing, rises_writing}
use Rattle.run_report.proofs.fetches.write_numbers.Goals as goal

pub touches-init : goal.touches-init
touches-init c =
    begins_writing _ _ _ _ _ _ _ c.first-at.ensures
    (c.requires.chains.chains (c.args.calls + c.args.index)
    (let count = c.requires.chains.count in let in_log = c.requires.index in omega arith))

pub touches-smaller : goal.touches-smaller
touches-smaller c = let up = rises_writing _ _ _ _ _ _ c.touches.invariant c.touches-test.true in omega
    (arith, c.next-at.ensures)

pub touches-preserved : goal.touches-preserved
touches-preserved c =
    goes_on_writing _ _ (λ one. number_found c.args.access.now c.args.dtype one.1) _ _ _ _ _ _
    c.touches.invariant c.touches-test.true c.in_ok-write_found.ensures c.next-at.ensures

pub returns : goal.returns
returns c = ends_writing _ _ _ _ _ _ c.touches.invariant c.touches-test.false
