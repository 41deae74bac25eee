use Rattle.std.proofs.Common.{◌++◌, ◌∙◌, List, ap}
use Rattle.std.specs.String.{string_bytes}
use Rattle.rma_types.specs.declared.calls.Call.{Call}
use Rattle.rma_record.specs.declared.items.Item.{Item}
use Rattle.lawful_runs.specs.Logs.{calls_of, log_of}
use Rattle.run_texts.specs.Report.{call_lines}
use Rattle.run_report.proofs.Lists.{written_step}
use Rattle.run_report.proofs.reports.write_all_calls.Goals as goal

pub loop-rank-preserved : goal.loop-rank-preserved
loop-rank-preserved c =
    let before = string_bytes c.loop-rank.text in
    written_step (λ rank. call_lines rank (calls_of c.args.script.now rank) (log_of c.args.run.now rank))
    c.loop-rank.rank _ _ _ _ c.loop-rank-test.true c.loop-rank.invariant
    (c.in_ok-write_calls.ensures
    ∙ ap (λ (calls : List Call). before ++ call_lines c.loop-rank.rank calls c.items_of.result.now) c.calls_in.ensures
    ∙ ap (λ (log : List Item). before
    ++ call_lines c.loop-rank.rank (calls_of c.args.script.now c.loop-rank.rank) log) c.items_of.ensures)
