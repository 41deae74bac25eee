use Rattle.std.proofs.Common.{◌≡◌, ◌+◌, drop, length}
use Rattle.std.specs.List.{position, position_from}
use Rattle.delivery_queue.specs.Blocks.{ones_in, accesses_of}
use Rattle.delivery_queue.specs.Soughts.{is_sought}
use Rattle.delivery_queue.proofs.searches.first.Given as goal

abbrev pub invariant-loop-part : goal.invariant-loop-part
invariant-loop-part g l = record {
  rest : position_from (is_sought l.sought) l.before
      (accesses_of (ones_in g.P.Part.ones (drop l.part-index l.parts))) ≡
      position (is_sought l.sought) (accesses_of (ones_in g.P.Part.ones l.parts));
  count : l.before + length (ones_in g.P.Part.ones (drop l.part-index l.parts)) ≡
      length (ones_in g.P.Part.ones l.parts);
}
