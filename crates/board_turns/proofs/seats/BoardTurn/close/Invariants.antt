use Rattle.std.proofs.Common.{◌≡◌, ◌≤◌, ◌+◌, ◌++◌, length, map}
use Rattle.std.specs.Prelude.{All, vec_capacity}
use Rattle.board_turns.specs.Seats.{place_of, IsSeat}
use Rattle.board_turns.proofs.seats.BoardTurn.close.Given as goal

abbrev pub invariant-loop-seat : goal.invariant-loop-seat
invariant-loop-seat g l =
    (map place_of l.places.items ++ l.seat-iterator.rest.items ≡ l.initial.seat-iterator.rest.items)
    × All IsSeat l.places.items
    × (length l.places.items + length l.seat-iterator.rest.items ≤ vec_capacity l.places)

abbrev pub decreases-loop-seat : goal.decreases-loop-seat
decreases-loop-seat g l = length l.seat-iterator.rest.items
