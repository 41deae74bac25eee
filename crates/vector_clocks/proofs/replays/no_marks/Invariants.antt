use Rattle.std.proofs.Common.{◌≡◌, [], replicate}
use Rattle.vector_clocks.proofs.replays.no_marks.Given as goal

abbrev pub invariant-loop : goal.invariant-loop
invariant-loop l = l.clocks.items ≡ replicate l.counter []
