use Rattle.std.proofs.Common.{◌∙◌, sym, ap, length, arith}
use Rattle.rank_runners.specs.RankSets.{has}
use Rattle.rank_runners.proofs.Numbers.{kept_here, kept_past}
use Rattle.rank_runners.proofs.schedules.count_ready.Goals as goal
use Rattle.rank_runners.proofs.schedules.count_ready.Goals.{then-contains, else-contains}

pub loop-rank-preserved : goal.loop-rank-preserved
loop-rank-preserved c = elim c.if-contains.branch [
  | then-contains w ↦
      let more = ap length
      (kept_here (has c.args.ready) c.loop-rank.rank c.args.ranks c.loop-rank-test.true (sym c.contains.ensures
      ∙ w.if-contains.true)) in
      record { all = omega (arith, c.loop-rank.invariant.all, more, w.count-is); few = omega (arith, w.count-is) }
  | else-contains w ↦
      let same = ap length
      (kept_past (has c.args.ready) c.loop-rank.rank c.args.ranks c.loop-rank-test.true (sym c.contains.ensures
      ∙ w.if-contains.false)) in
      record { all = omega (arith, c.loop-rank.invariant.all, same, w.count-is); few = omega (arith, w.count-is) }
]
