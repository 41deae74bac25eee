use Rattle.std.proofs.Common.{◌∙◌, sym}
use Rattle.rank_runners.specs.RankSets.{has}
use Rattle.rank_runners.proofs.Numbers.{find_more, find_here}
use Rattle.rank_runners.proofs.schedules.first_ready.Goals as goal

pub loop-rank-preserved : goal.loop-rank-preserved
loop-rank-preserved c =
    find_more (has c.args.ready) c.loop-rank.rank c.args.to c.loop-rank-test.true (sym c.contains.ensures
    ∙ c.if-contains.false) ∙ c.loop-rank.invariant

pub returns-then-contains : goal.returns-then-contains
returns-then-contains c =
    find_here (has c.args.ready) c.loop-rank.rank c.args.to c.loop-rank-test.true (sym c.contains.ensures
    ∙ c.if-contains.true) ∙ c.loop-rank.invariant
