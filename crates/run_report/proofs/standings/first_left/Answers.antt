use Rattle.std.proofs.Common.{◌∙◌, ap, sym, length}
use Rattle.std.specs.Prelude.{not}
use Rattle.std.specs.List.{list_any}
use Rattle.run_texts.specs.Answers.{ends}
use Rattle.run_report.proofs.Lists.{find_goes, find_stops}
use Rattle.run_report.proofs.standings.first_left.Goals as goal

pub returns-then-not-is_ended-clause-value : goal.returns-then-not-is_ended-clause-value
returns-then-not-is_ended-clause-value c =
    find_stops (λ call. not (list_any (ends c.args.calls.now call) c.args.items.now)) c.loop-call.call
    (length c.args.calls.now) _ c.loop-call-test.true
    (ap not (sym c.is_ended.ensures ∙ c.if-not-is_ended.true)) c.loop-call.invariant

pub loop-call-preserved : goal.loop-call-preserved
loop-call-preserved c =
    find_goes (λ call. not (list_any (ends c.args.calls.now call) c.args.items.now)) c.loop-call.call
    (length c.args.calls.now) _ c.loop-call-test.true
    (ap not (sym c.is_ended.ensures ∙ c.if-not-is_ended.false)) c.loop-call.invariant
