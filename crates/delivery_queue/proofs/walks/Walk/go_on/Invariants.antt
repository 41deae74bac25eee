use Rattle.std.proofs.Common.{◌<◌, length}
use Rattle.delivery_queue.specs.Blocks.{accesses_of}
use Rattle.delivery_queue.specs.Walked.{IsWalked}
use Rattle.delivery_queue.proofs.walks.Walk.go_on.Given as goal

abbrev pub invariant-loop : goal.invariant-loop
invariant-loop g l = record {
  walked : IsWalked (accesses_of (g.P.Part.ones l.ones)) l.self;
  within : l.self.end < length (g.P.Part.ones l.ones);
}
