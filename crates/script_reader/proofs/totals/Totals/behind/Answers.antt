use Rattle.std.proofs.Common.{◌*◌, sym, ◌∙◌}
use Rattle.std.proofs.lemmas.Result.{err_from_is_err_and}
use Rattle.script_reader.specs.Totals.{totals_with}
use Rattle.script_reader.proofs.Charging.{behind_ok, behind_err, behind_none, behind_within}
use Rattle.script_reader.proofs.totals.Totals.behind.Goals as goal

pub returns-in_err-totals : goal.returns-in_err-totals
returns-in_err-totals c =
    let e = behind_err c.loop-call.totals c.in_err-totals.field-0.0 c.args.ranks c.args.times c.call_size.result
    c.loop-call.call-index c.call-item.result c.args.calls.now c.loop-call-test.true c.call-item.is
    c.call_size.ensures c.in_err-totals.ensures in
    let p = err_from_is_err_and c.from_residual.result c.from_residual.ensures.1 in
    rw (p.1, p.2) (sym e ∙ c.loop-call.invariant.left)

pub loop-call-preserved : goal.loop-call-preserved
loop-call-preserved c =
    let within = behind_within (totals_with c.loop-call.totals c.args.ranks c.args.times
    (c.args.times * c.call_size.result)) c.in_ok-totals.totals c.in_ok-totals.ensures in
    let e = behind_ok c.loop-call.totals c.in_ok-totals.totals c.args.ranks c.args.times c.call_size.result
    c.loop-call.call-index c.call-item.result c.args.calls.now c.loop-call-test.true c.call-item.is
    c.call_size.ensures c.in_ok-totals.ensures in
    record { few_calls = within.0; few_bytes = within.1; left = e ∙ c.loop-call.invariant.left }

pub returns : goal.returns
returns c =
    sym (behind_none c.loop-call.totals c.args.ranks c.args.times c.loop-call.call-index c.args.calls.now
    c.loop-call-test.false c.loop-call.invariant.few_calls c.loop-call.invariant.few_bytes)
    ∙ c.loop-call.invariant.left
