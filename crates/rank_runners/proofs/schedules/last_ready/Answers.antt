use Rattle.std.proofs.Common.{◌∙◌, sym, arith}
use Rattle.rank_runners.specs.RankSets.{has}
use Rattle.rank_runners.proofs.Numbers.{find_lower, find_top}
use Rattle.rank_runners.proofs.schedules.last_ready.Goals as goal

pub loop-at-preserved : goal.loop-at-preserved
loop-at-preserved c = record {
  within = omega arith;
  found = find_lower (has c.args.ready) c.args.from c.loop-at.at c.loop-at-test.true (sym c.contains.ensures
      ∙ c.if-contains.false)
      ∙ c.loop-at.invariant.found;
}

pub returns-then-contains : goal.returns-then-contains
returns-then-contains c =
    find_top (has c.args.ready) c.args.from c.loop-at.at c.loop-at-test.true (sym c.contains.ensures
    ∙ c.if-contains.true) ∙ c.loop-at.invariant.found
