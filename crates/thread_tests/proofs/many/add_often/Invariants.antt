use Rattle.std.proofs.Common.{◌≡◌, ◌<◌, length}
use Rattle.cell_words.specs.Holders.{face_of}
use Rattle.thread_tests.proofs.many.add_often.Given as goal

abbrev pub invariant-loop : goal.invariant-loop
invariant-loop l = record {
  name : (face_of l.seat).name ≡ (face_of l.initial.seat).name;
  grant : (face_of l.seat).grant ≡ (face_of l.initial.seat).grant;
  cell : 0 < length l.seat.view.lows;
}
