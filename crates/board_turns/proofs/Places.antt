-- Seats of the turn lock as seats at a board.
use Rattle.std.proofs.Common.{◌≡◌, ℕ, Bool, List, [], ◌∷◌, sym, refl, ap, ◌∙◌, false, true, true≢false}
use Rattle.std.specs.Prelude.{None, Some, unwrap_or}
use Rattle.atomic_table.specs.Seated.{TableId}
use Rattle.kept_rows.specs.Gifts.{Given}
use Rattle.sync_board.specs.Boards.{BoardState, rank_of}
use Rattle.turn_lock.specs.Lists.{of}
use Rattle.turn_lock.specs.Views.{resting, holding}
use Rattle.turn_lock.specs.Seats.{number_of, given_by, known_by, IsIdleAt, HoldsAt}
use Rattle.turn_lock.specs.declared.seats.TurnSeat.{TurnSeat}
use Rattle.board_turns.specs.Places.{Round, Place}
use Rattle.board_turns.specs.Seats.{first_of, place_of, IsSeat}

module _ {V : Type 0} (seat : TurnSeat V Given BoardState) (name : TableId) (first : BoardState) where
  abbrev Owns : Type 0
  Owns = of rank_of (number_of seat) (known_by seat) ≡ given_by seat

  abbrev pub at_round : Bool → Place
  at_round holds = record { turn = record { table = name; first = first }; number = number_of seat; known = known_by seat; holds = holds }

  idle_first : IsIdleAt name first seat → first_of seat ≡ first
  idle_first idle = ap (λ m. unwrap_or m.0.origin (record { ranks = 0; layout = record { parts = []; bases = [] }; name = []; entries = [] })) idle.1

  pub idle_place : IsIdleAt name first seat → place_of seat ≡ at_round false
  idle_place idle i = record {
    turn = record { table = idle.0 i; first = idle_first idle i };
    number = number_of seat;
    known = known_by seat;
    holds = (idle.1 i).0.inside;
  }

  pub idle_seat : IsIdleAt name first seat → Owns → IsSeat seat
  idle_seat idle own = record {
    idle = λ _. (refl, idle.1 ∙ ap (λ o. (resting (number_of seat) (given_by seat) (known_by seat) o, [])) (sym (idle_first idle)));
    holding = λ e. absurd (true≢false (sym e ∙ ap (λ m. m.0.inside) idle.1));
    own = own;
  }

  holds_first : HoldsAt name first seat → first_of seat ≡ first
  holds_first holds = ap (λ m. unwrap_or m.0.origin (record { ranks = 0; layout = record { parts = []; bases = [] }; name = []; entries = [] })) holds.2

  pub holds_place : HoldsAt name first seat → place_of seat ≡ at_round true
  holds_place holds i = record {
    turn = record { table = holds.0 i; first = holds_first holds i };
    number = number_of seat;
    known = known_by seat;
    holds = (holds.2 i).0.inside;
  }

  pub holds_seat : HoldsAt name first seat → Owns → IsSeat seat
  holds_seat holds own = record {
    idle = λ e. absurd (true≢false (sym (ap (λ m. m.0.inside) holds.2) ∙ e));
    holding = λ _. (refl, holds.1, holds.2 ∙ ap (λ o. (holding (number_of seat) (given_by seat) (known_by seat) o holds.1, (0, None) ∷ [])) (sym (holds_first holds)));
    own = own;
  }

  -- a seat at this round that rests, or has the turn
  pub rests_at : IsSeat seat → (place_of seat).turn ≡ record { table = name; first = first } → (place_of seat).holds ≡ false → IsIdleAt name first seat
  rests_at is at rests = let idle = is.idle rests in
      (ap (λ (r : Round). r.table) at, idle.1 ∙ ap (λ (r : Round). (resting (number_of seat) (given_by seat) (known_by seat) r.first, [])) at)

  pub has_at : IsSeat seat → (place_of seat).turn ≡ record { table = name; first = first } → (place_of seat).holds ≡ true → HoldsAt name first seat
  has_at is at has = let holds = is.holding has in
      (ap (λ (r : Round). r.table) at, holds.1, holds.2 ∙ ap (λ (r : Round). (holding (number_of seat) (given_by seat) (known_by seat) r.first holds.1, (0, None) ∷ [])) at)
