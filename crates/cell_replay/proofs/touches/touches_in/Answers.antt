-- The touches of the next rank are added.
use Rattle.std.proofs.Common.{◌+◌, ◌-◌, ◌∙◌}
use Rattle.std.specs.List.{flat_map}
use Rattle.call_rules.specs.Pieces.{numbers_from}
use Rattle.lawful_runs.specs.Accesses.{touches_of}
use Rattle.cell_replay.specs.Kept.{touchings_of}
use Rattle.cell_replay.proofs.Steps.{joined, lists_step}
use Rattle.cell_replay.proofs.touches.touches_in.Goals as goal

pub loop-rank-preserved : goal.loop-rank-preserved
loop-rank-preserved c =
    let rank = c.loop-rank.rank in
    let ranks = c.args.script.now.ranks in
    let touches = touches_of c.args.script.now c.args.run.now in
    joined (touchings_of c.loop-rank.touches.items) (touchings_of c.push_touches.new.touches.items) (touches rank)
    (flat_map touches (numbers_from (rank + 1) (ranks - (rank + 1))))
    (flat_map touches (numbers_from rank (ranks - rank)))
    c.in_ok-push_touches.ensures (lists_step touches rank ranks c.loop-rank-test.true)
    ∙ c.loop-rank.invariant
