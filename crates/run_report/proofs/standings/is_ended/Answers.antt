use Rattle.std.proofs.Common.{◌∙◌, sym, arith, length}
use Rattle.run_texts.specs.Answers.{ends}
use Rattle.run_report.proofs.Asked.{begins_asking}
use Rattle.run_report.proofs.Walks.{goes_on_asking, found_asking, ends_asking, rises_asking}
use Rattle.run_report.proofs.standings.is_ended.Goals as goal

pub links-init : goal.links-init
links-init c =
    begins_asking c.args.calls.now c.args.items.now c.args.chains.now.next.items _ _ c.args.call c.requires.call
    c.first-at.ensures
    (c.requires.chains.chains c.args.call
    (let count = c.requires.chains.count in let in_list = c.requires.call in omega arith))

pub links-smaller : goal.links-smaller
links-smaller c = let up = rises_asking _ _ _ _ _ c.links.invariant c.links-test.true in omega
    (arith, c.next-at.ensures)

pub links-preserved : goal.links-preserved
links-preserved c =
    goes_on_asking _ _ (ends c.args.calls.now c.args.call) _ _ _ _ c.links.invariant c.links-test.true
    (sym c.ends.ensures ∙ c.if-ends.false) c.next-at.ensures

pub returns-then-ends : goal.returns-then-ends
returns-then-ends c =
    found_asking _ _ (ends c.args.calls.now c.args.call) _ _ _ c.links.invariant c.links-test.true
    (sym c.ends.ensures ∙ c.if-ends.true)

pub returns : goal.returns
returns c = ends_asking _ _ _ _ _ c.links.invariant c.links-test.false
