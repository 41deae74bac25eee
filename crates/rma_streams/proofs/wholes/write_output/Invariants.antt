use Rattle.std.proofs.Common.{length, ◌-◌, ◌≡◌, ◌≤◌, take}
use Rattle.rma_streams.specs.Moves.{Wrote}
use Rattle.rma_streams.proofs.wholes.write_output.Given as goal

-- the first bytes are written, and no fault was counted
abbrev pub invariant-turns : goal.invariant-turns
invariant-turns g l = record {
  within : l.done ≤ length l.bytes;
  wrote : Wrote (g.K.Sink.written l.initial.sink) (take l.done l.bytes) (g.K.Sink.written l.sink);
  no_fault : g.K.Sink.faults l.sink ≡ g.K.Sink.faults l.initial.sink;
}

abbrev pub decreases-turns : goal.decreases-turns
decreases-turns g l = length l.bytes - l.done
