use Rattle.std.proofs.Common.{◌≡◌, length}
use Rattle.vector_clocks.specs.Replays.{Replayed}
use Rattle.vector_clocks.proofs.replays.replay.Given as goal

abbrev pub invariant-loop-at : goal.invariant-loop-at
invariant-loop-at l = record {
  lists : length l.clocks ≡ 16;
  replayed : Replayed l.recorded.script.now l.recorded.run.now l.at l.gains l.clocks;
}
