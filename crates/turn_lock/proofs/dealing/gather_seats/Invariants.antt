use Rattle.std.proofs.Common.{◌≡◌, [], ◌<◌, ◌++◌, length, drop}
use Rattle.turn_lock.specs.Seats.{gathered}
use Rattle.turn_lock.proofs.dealing.gather_seats.Given as goal

abbrev pub invariant-loop-seat : goal.invariant-loop-seat
invariant-loop-seat g l =
    (l.all.table_id ≡ l.shared.table_id)
    × (l.seats.items ++ drop (length l.seats.items) l.fn.seats.items ≡ l.fn.seats.items)
    × (length l.seats.items < length l.fn.seats.items)
    × (l.all.me ≡ (gathered (g.V.Listed.origin l.shared.key.value.value) (drop (length l.seats.items) l.fn.seats.items), []))

abbrev pub decreases-loop-seat : goal.decreases-loop-seat
decreases-loop-seat g l = length l.seats.items
