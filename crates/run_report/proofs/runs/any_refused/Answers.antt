use Rattle.std.proofs.Common.{◌∙◌, sym, ap, arith}
use Rattle.std.specs.List.{list_any}
use Rattle.lawful_runs.specs.Items.{is_refused}
use Rattle.run_report.proofs.Lists.{any_goes, any_stops}
use Rattle.run_report.proofs.runs.any_refused.Goals as goal

pub returns-then-refuses : goal.returns-then-refuses
returns-then-refuses c =
    any_stops (list_any is_refused) c.args.run.now.logs c.loop-rank.rank (omega arith)
    (ap (list_any is_refused) (sym c.items_of.ensures) ∙ sym c.refuses.ensures
    ∙ c.if-refuses.true) c.loop-rank.invariant

pub loop-rank-preserved : goal.loop-rank-preserved
loop-rank-preserved c =
    any_goes (list_any is_refused) c.args.run.now.logs c.loop-rank.rank (omega arith)
    (ap (list_any is_refused) (sym c.items_of.ensures) ∙ sym c.refuses.ensures
    ∙ c.if-refuses.false) c.loop-rank.invariant
