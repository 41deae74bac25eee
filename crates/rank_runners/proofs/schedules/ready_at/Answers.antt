use Rattle.std.proofs.Common.{◌∙◌, ◌-◌, ◌+◌, ◌<◌, ℕ, List, sym, ap, arith}
use Rattle.std.specs.Prelude.{slice_get}
use Rattle.std.specs.List.{filter}
use Rattle.call_rules.specs.Pieces.{numbers_from}
use Rattle.rank_runners.specs.RankSets.{has}
use Rattle.rank_runners.proofs.Numbers.{kept_here, kept_past, got_behind}
use Rattle.rank_runners.proofs.schedules.ready_at.Goals as goal
use Rattle.rank_runners.proofs.schedules.ready_at.Goals.{then-contains+else-left-eq0, else-contains}

pub loop-rank-preserved : goal.loop-rank-preserved
loop-rank-preserved c =
    let rank = c.loop-rank.rank in
    let rest = filter (has c.args.ready) (numbers_from (rank + 1) (c.args.ranks - (rank + 1))) in
    elim c.if-contains.branch [
      | then-contains+else-left-eq0 w ↦
          let here = kept_here (has c.args.ready) rank c.args.ranks c.loop-rank-test.true (sym c.contains.ensures
          ∙ w.if-contains.true) in
          let some : 0 < c.loop-rank.left = omega (arith, w.if-left-eq0.false) in
          ap (slice_get rest) w.left-is ∙ sym (got_behind rank rest c.loop-rank.left some)
          ∙ ap (λ (xs : List ℕ). slice_get xs c.loop-rank.left) (sym here) ∙ c.loop-rank.invariant
      | else-contains w ↦
          let past = kept_past (has c.args.ready) rank c.args.ranks c.loop-rank-test.true (sym c.contains.ensures
          ∙ w.if-contains.false) in
          ap (slice_get rest) w.left-is ∙ ap (λ (xs : List ℕ). slice_get xs c.loop-rank.left) (sym past)
          ∙ c.loop-rank.invariant
    ]
