-- The run whose logs are kept is the one that was given.
use Rattle.std.proofs.Common.{◌≡◌, List, sym, subst}
use Rattle.std.specs.Prelude.{IfOk}
use Rattle.rma_types.specs.declared.findings.Finding.{Finding}
use Rattle.order_rules.specs.Before.{IsOrder}
use Rattle.order_rules.specs.Findings.{findings}
use Rattle.vector_clocks.specs.Marks.{before_in}
use Rattle.conflict_check.proofs.run_findings.findings.Goals as goal

pub findings_by-requires-clause-order : goal.findings_by-requires-clause-order
findings_by-requires-clause-order c =
    subst (λ s. IsOrder s c.in_ok-recorded.recorded.run.now (before_in c.args.clocks.now))
    (sym c.in_ok-recorded.ensures.script)
    (subst (λ r. IsOrder c.args.script.now r (before_in c.args.clocks.now)) (sym c.in_ok-recorded.ensures.run)
    c.requires.order)

pub returns : goal.returns
returns c =
    subst (λ s. IfOk c.findings_by.result (λ (found : List Finding).
    found ≡ findings s c.args.run.now c.args.model (before_in c.args.clocks.now))) c.in_ok-recorded.ensures.script
    (subst (λ r. IfOk c.findings_by.result (λ (found : List Finding).
    found ≡ findings c.in_ok-recorded.recorded.script.now r c.args.model (before_in c.args.clocks.now)))
    c.in_ok-recorded.ensures.run c.findings_by.ensures)
