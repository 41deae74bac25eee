use Rattle.std.specs.Prelude.{◌≡◌, false}
use Rattle.std.specs.Io.KnownBytes.{Keeps}
use Rattle.rma_streams.proofs.system_calls.Calls.read.Given as goal

-- all calls so far were interrupted, and moved nothing
abbrev pub invariant-calls : goal.invariant-calls
invariant-calls g l = record {
  kept : Keeps (g.R.Read.remaining l.initial.self.stream) (g.R.Read.remaining l.self.stream);
  tried : l.self.tried ≡ record { interrupted = l.counter; failed = false };
}
