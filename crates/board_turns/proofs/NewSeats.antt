-- The seats that the turn lock deals, as new seats at a board.
use Rattle.std.proofs.Common.{◌≡◌, ℕ, zero, suc, ◌<◌, List, [], ◌∷◌, ◌++◌, length, map, get_or, sym, ap, ◌∙◌, arith, false}
use Rattle.std.specs.Prelude.{All, Some, slice_get}
use Rattle.std.proofs.lemmas.List.{append-nil}
use Rattle.atomic_table.specs.Seated.{TableId}
use Rattle.kept_rows.specs.Gifts.{Given}
use Rattle.sync_board.specs.Boards.{BoardState, rank_of}
use Rattle.turn_lock.specs.Lists.{of}
use Rattle.turn_lock.specs.Seats.{number_of, given_by, known_by, IsIdleAt}
use Rattle.turn_lock.specs.declared.seats.TurnSeat.{TurnSeat}
use Rattle.board_turns.specs.Places.{Place, new_place}
use Rattle.board_turns.specs.Seats.{place_of, IsSeat}
use Rattle.board_turns.proofs.Places.{idle_place, idle_seat}

mapped_at : {A B : Type 0} (f : A → B) (xs : List A) (k : ℕ) (b : B) → k < length xs → ((d : A) → f (get_or xs k d) ≡ b) → slice_get (map f xs) k ≡ Some b
mapped_at f [] k b lt e = absurd (omega arith)
mapped_at f (x ∷ xs) zero b lt e = ap Some (e x)
mapped_at f (x ∷ xs) (suc k) b lt e = mapped_at f xs k b (omega arith) e

-- what is left is nothing, so all is moved
pub all_moved : {A B : Type 0} (f : A → B) (moved : List B) (rest all : List A) → moved ++ map f rest ≡ map f all → length rest ≡ 0 → moved ≡ map f all
all_moved f moved [] all e none = sym (append-nil moved) ∙ e
all_moved f moved (x ∷ rest) all e none = absurd (omega (arith, none))

module _ {V : Type 0} (name : TableId) (first : BoardState) (seats : List (TurnSeat V Given BoardState)) where
  abbrev AreNew : Type 0
  AreNew = All (λ (seat : TurnSeat V Given BoardState). (given_by seat ≡ []) × (known_by seat ≡ [])) seats

  pub all_seats : All (IsIdleAt name first) seats → AreNew → All IsSeat seats
  all_seats idle new k d lt =
      let seat = get_or seats k d in
      let none = new k d lt in
      idle_seat seat name first (idle k d lt) (ap (of rank_of (number_of seat)) none.1 ∙ sym none.0)

  pub new_places : All (IsIdleAt name first) seats → AreNew
      → ((k : ℕ) (seat : TurnSeat V Given BoardState) → k < length seats → number_of (get_or seats k seat) ≡ k)
      → (k : ℕ) → k < length seats → slice_get (map place_of seats) k ≡ Some (new_place (record { table = name; first = first }) k)
  new_places idle new numbers k lt = mapped_at place_of seats k (new_place (record { table = name; first = first }) k) lt
      (λ d. idle_place (get_or seats k d) name first (idle k d lt)
      ∙ (λ i. record { turn = record { table = name; first = first }; number = numbers k d lt i; known = (new k d lt).1 i; holds = false }))
