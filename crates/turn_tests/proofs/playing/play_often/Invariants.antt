use Rattle.std.proofs.Common.{◌≡◌}
use Rattle.turn_lock.specs.Seats.{number_of, IsIdle}
use Rattle.turn_tests.specs.Places.{place_of}
use Rattle.turn_tests.proofs.playing.play_often.Given as goal

abbrev pub invariant-loop-at : goal.invariant-loop-at
invariant-loop-at g l = IsIdle place_of l.turn l.seat × (number_of l.seat ≡ number_of l.fn.seat)
