-- What a seat of the turn lock must be to stand at a turn round a board.
use Rattle.std.specs.Prelude.{◌≡◌, Option, unwrap_or, [], true, false}
use Rattle.kept_rows.specs.Gifts.{Given}
use Rattle.sync_board.specs.Boards.{BoardState, rank_of}
use Rattle.turn_lock.specs.Lists.{of}
use Rattle.turn_lock.specs.Seats.{number_of, given_by, known_by, IsIdleAt, HoldsAt}
use Rattle.turn_lock.specs.declared.seats.TurnSeat.{TurnSeat}
use Rattle.board_turns.specs.Places.{Round, Place}

module _ {V : Type 0} where
  -- where the seat's turn comes from, which a seat that was not taken in tells
  abbrev pub first_of : TurnSeat V Given BoardState → BoardState
  first_of seat = unwrap_or seat.place.me.0.origin (record { ranks = 0; layout = record { parts = []; bases = [] }; name = []; entries = [] })

  abbrev pub place_of : TurnSeat V Given BoardState → Place
  place_of seat = record {
    turn = record { table = seat.place.table_id; first = first_of seat };
    number = number_of seat;
    known = known_by seat;
    holds = seat.place.me.0.inside;
  }

  -- it has the turn or rests, and knows all entries that it gave
  pub record IsSeat (seat : TurnSeat V Given BoardState) : Type 0 where
    pub idle : seat.place.me.0.inside ≡ false → IsIdleAt seat.place.table_id (first_of seat) seat
    pub holding : seat.place.me.0.inside ≡ true → HoldsAt seat.place.table_id (first_of seat) seat
    pub own : of rank_of (number_of seat) (known_by seat) ≡ given_by seat
