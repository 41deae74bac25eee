use Rattle.std.proofs.Common.{◌∙◌, sym, ap, arith}
use Rattle.lawful_runs.specs.Items.{has_ended}
use Rattle.run_report.proofs.Lists.{all_goes, all_stops}
use Rattle.run_report.proofs.runs.every_rank_ended.Goals as goal

pub returns-then-not-has_ended : goal.returns-then-not-has_ended
returns-then-not-has_ended c =
    all_stops has_ended c.args.run.now.logs c.loop-rank.rank (omega arith)
    (ap has_ended (sym c.items_of.ensures) ∙ sym c.has_ended.ensures ∙ c.if-not-has_ended.true) c.loop-rank.invariant

pub loop-rank-preserved : goal.loop-rank-preserved
loop-rank-preserved c =
    all_goes has_ended c.args.run.now.logs c.loop-rank.rank (omega arith)
    (ap has_ended (sym c.items_of.ensures) ∙ sym c.has_ended.ensures ∙ c.if-not-has_ended.false) c.loop-rank.invariant
