use Rattle.std.proofs.Common.{◌++◌, ◌∙◌, ap, sym, subst, List, ℕ, arith}
use Rattle.std.specs.String.{string_bytes}
use Rattle.run_report.specs.Parts.{item_lines, said_lines}
use Rattle.run_report.proofs.Walks.{Writes, begins_writing, goes_on_writing, ends_writing, rises_writing}
use Rattle.run_report.proofs.calls.write_said.Goals as goal

pub links-init : goal.links-init
links-init c = begins_writing _ _ _ _ _ _ _ c.first-at.ensures (c.requires.chains.chains c.args.call (omega arith))

pub links-smaller : goal.links-smaller
links-smaller c = let up = rises_writing _ _ _ _ _ _ c.links.invariant c.links-test.true in omega
    (arith, c.next-at.ensures)

pub links-preserved : goal.links-preserved
links-preserved c =
    goes_on_writing _ _ (λ one. item_lines c.args.rank c.args.calls.now c.args.items.now one.0 one.1) _ _ _ _ _ _
    c.links.invariant c.links-test.true c.in_ok-write_item.ensures c.next-at.ensures

pub returns : goal.returns
returns c = ends_writing _ _ _ _ _ _ c.links.invariant c.links-test.false
