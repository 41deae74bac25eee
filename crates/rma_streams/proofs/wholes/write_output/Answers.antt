use Rattle.std.proofs.Common.{ℕ, arith}
use Rattle.std.proofs.lemmas.List.{length-take, length-drop}
use Rattle.rma_streams.proofs.MoveLemmas.{Wrote-more}
use Rattle.rma_streams.proofs.wholes.write_output.Goals as goal

pub turns-preserved : goal.turns-preserved
turns-preserved g c = record {
  within = omega (arith, c.in_ok-done.ensures.within, length-take {A = ℕ}, length-drop {A = ℕ});
  wrote =
      Wrote-more (g.K.Sink.written c.args.sink.now) (g.K.Sink.written c.turns.sink) (g.K.Sink.written c.write.new.self)
      c.args.bytes.now c.turns.done c.in_ok-done.field-0 c.turns.invariant.wrote c.in_ok-done.ensures.appended;
  no_fault = cc c.in_ok-done.ensures.no_fault;
}
