-- The findings by what is kept of the run are those of the run, and its clocks decide its order.
use Rattle.std.proofs.Common.{◌≡◌, List, sym, subst}
use Rattle.std.specs.Prelude.{IfOk}
use Rattle.std.proofs.lemmas.Result.{IfOk-weaker}
use Rattle.rma_types.specs.declared.findings.Finding.{Finding}
use Rattle.rma_types.specs.declared.findings.Model.TheVariants.{Separate}
use Rattle.order_rules.specs.Findings.{AreFindings, findings}
use Rattle.order_rules.specs.OrderedReads.{TouchesAgree}
use Rattle.vector_clocks.specs.Marks.{before_in}
use Rattle.conflict_check.specs.Judgements.{AreReadsOrderedIfNone}
use Rattle.conflict_check.proofs.WithoutFindings.{ordered_if_none}
use Rattle.conflict_check.proofs.judgements.judge.Goals as goal

pub returns-clause-found : goal.returns-clause-found
returns-clause-found c =
    subst (λ s. IfOk c.findings_by.result (AreFindings s c.args.run.now Separate)) c.in_ok-recorded.ensures.script
    (subst (λ r. IfOk c.findings_by.result (AreFindings c.in_ok-recorded.recorded.script.now r Separate))
    c.in_ok-recorded.ensures.run
    (IfOk-weaker c.findings_by.result
    (λ (found : List Finding). found ≡ findings c.in_ok-recorded.recorded.script.now c.in_ok-recorded.recorded.run.now
    Separate (before_in c.in_ok-clocks.clocks))
    (AreFindings c.in_ok-recorded.recorded.script.now c.in_ok-recorded.recorded.run.now Separate)
    (λ found same. (before_in c.in_ok-clocks.clocks, c.in_ok-clocks.ensures.order, same))
    c.findings_by.ensures))

pub returns-clause-reads : goal.returns-clause-reads
returns-clause-reads c =
    let agrees = subst (λ s. TouchesAgree s c.in_ok-recorded.recorded.run.now) (sym c.in_ok-recorded.ensures.script)
    (subst (TouchesAgree c.args.script.now) (sym c.in_ok-recorded.ensures.run) c.requires.agrees) in
    let kept = c.in_ok-recorded.ensures.recorded in
    subst (λ s. IfOk c.findings_by.result (AreReadsOrderedIfNone s c.args.run.now)) c.in_ok-recorded.ensures.script
    (subst (λ r. IfOk c.findings_by.result (AreReadsOrderedIfNone c.in_ok-recorded.recorded.script.now r))
    c.in_ok-recorded.ensures.run
    (ordered_if_none c.reads_are_ordered.ensures c.in_ok-recorded.recorded.script.now
    c.in_ok-recorded.recorded.run.now kept.formed kept.lawful agrees (before_in c.in_ok-clocks.clocks)
    c.in_ok-clocks.ensures.order c.findings_by.result c.findings_by.ensures))
