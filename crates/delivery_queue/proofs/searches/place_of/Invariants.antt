use Rattle.std.proofs.Common.{◌≡◌, ◌+◌, ◌<◌, take, drop, length}
use Rattle.delivery_queue.specs.Blocks.{ones_in}
use Rattle.delivery_queue.proofs.searches.place_of.Given as goal

abbrev pub invariant-loop-part : goal.invariant-loop-part
invariant-loop-part g l = record {
  begins : length (ones_in g.P.Part.ones (take l.part l.parts)) + l.offset ≡ l.at;
  within : l.offset < length (ones_in g.P.Part.ones (drop l.part l.parts));
}
