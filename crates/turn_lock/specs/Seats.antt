-- What contracts say of a turn and of its seats.
use Rattle.std.specs.Prelude.{ℕ, ◌≡◌, ◌%◌, ◌^◌, List, [], ◌∷◌, Some, None, map, false, slice_get}
use Rattle.atomic_table.specs.Seated.{TableId}
use Rattle.turn_lock.specs.Views.{resting, waiting, holding, first, spent}
use Rattle.turn_lock.specs.declared.seats.Turn.{Turn}
use Rattle.turn_lock.specs.declared.views.View.{View}
use Rattle.turn_lock.specs.declared.seats.TurnSeat.{TurnSeat}

module _ {V E O : Type 0} where
  -- the number of a seat, the entries that it gave, and the list as it last had it
  abbrev pub number_of : TurnSeat V E O → ℕ
  number_of seat = (first seat.place.me.0.parts).0

  abbrev pub given_by : TurnSeat V E O → List E
  given_by seat = (first seat.place.me.0.parts).1

  abbrev pub known_by : TurnSeat V E O → List E
  known_by seat = seat.place.me.0.known

  -- which turn it is, how many seats it has, and where its value comes from
  abbrev pub name_of : Turn V E O → TableId
  name_of turn = turn.round.shared.table_id

  abbrev pub seats_of : Turn V E O → ℕ
  seats_of turn = turn.round.shared.key.seats

  abbrev pub origin_of : (V → O) → Turn V E O → O
  origin_of origin turn = origin turn.round.shared.key.value.value

  module _ (name : TableId) (origin : O) where
    -- the seat is of this turn, and neither waits for it nor has it
    abbrev pub IsIdleAt : TurnSeat V E O → Type 0
    IsIdleAt seat =
        (seat.place.table_id ≡ name)
        × (seat.place.me ≡ (resting (number_of seat) (given_by seat) (known_by seat) origin, []))

    -- the seat waits for this turn with a ticket that has this number modulo 2^64
    abbrev pub IsWaitingAt : ℕ → TurnSeat V E O → Type 0
    IsWaitingAt ticket seat =
        (seat.place.table_id ≡ name)
        × (t : ℕ) × (ticket ≡ t % 2 ^ 64)
        × (seat.place.me ≡ (waiting (number_of seat) (given_by seat) (known_by seat) origin t, []))

    -- the seat has this turn, and the value is out with it
    abbrev pub HoldsAt : TurnSeat V E O → Type 0
    HoldsAt seat =
        (seat.place.table_id ≡ name)
        × (t : ℕ) × (seat.place.me ≡ (holding (number_of seat) (given_by seat) (known_by seat) origin t, (0, None) ∷ []))

    -- seats that nobody has used, whose numbers are their places
    abbrev pub AreFresh : List (TurnSeat V E O) → Type 0
    AreFresh seats = (k : ℕ) (seat : TurnSeat V E O) → slice_get seats k ≡ Some seat
        → (seat.place.table_id ≡ name) × (seat.place.me ≡ (resting k [] [] origin, []))

  module _ (origin : V → O) (turn : Turn V E O) where
    abbrev pub IsIdle : TurnSeat V E O → Type 0
    IsIdle = IsIdleAt (name_of turn) (origin_of origin turn)

    abbrev pub IsWaiting : ℕ → TurnSeat V E O → Type 0
    IsWaiting = IsWaitingAt (name_of turn) (origin_of origin turn)

    abbrev pub Holds : TurnSeat V E O → Type 0
    Holds = HoldsAt (name_of turn) (origin_of origin turn)

  -- seats of this turn, joined to one
  abbrev pub gathered : O → List (TurnSeat V E O) → View E O
  gathered origin [] = spent
  gathered origin (seat ∷ seats) = record {
    ticket = None;
    inside = false;
    parts = map (λ (s : TurnSeat V E O). (number_of s, given_by s)) (seat ∷ seats);
    known = known_by seat;
    heard = map known_by seats;
    origin = Some origin;
  }

  -- the number of a seat and what it gave stay
  abbrev pub IsSameSeat : TurnSeat V E O → TurnSeat V E O → Type 0
  IsSameSeat old new = (number_of new ≡ number_of old) × (given_by new ≡ given_by old)
