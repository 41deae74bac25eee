-- All entries come.
use Rattle.std.proofs.Common.{ap, map, ◌∙◌}
use Rattle.vector_clocks.specs.Places.{placed_item}
use Rattle.every_point.proofs.Replaying.{all_led, none_yet}
use Rattle.every_point.proofs.edges.led_by.Goals as goal

pub replay-requires-clause-order : goal.replay-requires-clause-order
replay-requires-clause-order c = ap (map placed_item) c.as_slice.ensures.value ∙ c.in_ok-order.ensures

pub replay-requires-clause-first : goal.replay-requires-clause-first
replay-requires-clause-first c =
    none_yet c.args.recorded.now.script.now c.args.recorded.now.run.now c.args.from c.new-gains.result
    c.new-led.result c.new-gains.ensures c.new-led.ensures

pub returns : goal.returns
returns c = all_led c.args.recorded.now.script.now c.args.recorded.now.run.now c.as_slice.result.now
    (ap (map placed_item) c.as_slice.ensures.value ∙ c.in_ok-order.ensures) c.args.from
    c.replay.new.gains c.replay.new.led c.in_ok-replay.ensures
