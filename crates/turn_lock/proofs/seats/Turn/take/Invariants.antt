use Rattle.turn_lock.specs.Seats.{known_by, IsWaiting, IsSameSeat}
use Rattle.std.proofs.Common.{◌≡◌}
use Rattle.turn_lock.proofs.seats.Turn.take.Given as goal

abbrev pub invariant-loop : goal.invariant-loop
invariant-loop g l =
    (goal.iterator-loop g).can_next l.iterator' × (goal.iterator-loop g).is_finite l.iterator'
    × IsWaiting g.V.Listed.origin l.self l.ticket l.seat
    × IsSameSeat l.fn.seat l.seat × (known_by l.seat ≡ known_by l.fn.seat)
