use Rattle.std.proofs.Common.{◌≡◌, [], ◌+◌, ◌-◌, length, ◌≤◌}
use Rattle.std.specs.Prelude.{vec_capacity}
use Rattle.turn_lock.specs.Seats.{AreFresh}
use Rattle.turn_lock.specs.Views.{dealing, numbers_from}
use Rattle.turn_lock.proofs.dealing.deal_seats.Given as goal

abbrev pub invariant-loop : goal.invariant-loop
invariant-loop g l =
    (length l.seats.items + 1 ≡ l.counter) × (l.counter ≤ l.count) × (l.count ≤ vec_capacity l.seats) × (l.dealer.table_id ≡ l.shared.table_id)
    × (l.dealer.me ≡ (dealing (numbers_from (length l.seats.items) (l.count - length l.seats.items)) (g.V.Listed.origin l.shared.key.value.value), []))
    × AreFresh l.shared.table_id (g.V.Listed.origin l.shared.key.value.value) l.seats.items
