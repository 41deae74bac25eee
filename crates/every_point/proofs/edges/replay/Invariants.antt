use Rattle.every_point.specs.Edges.{Replayed}
use Rattle.every_point.proofs.edges.replay.Given as goal

abbrev pub invariant-loop-at : goal.invariant-loop-at
invariant-loop-at l = Replayed l.recorded.script.now l.recorded.run.now l.from l.at l.gains l.led
