-- Seats at a board that all rest at its turn.
use Rattle.std.proofs.Common.{◌≡◌, ℕ, List, [], ◌∷◌, ◌++◌, length, map, sym, ◌∙◌, subst, arith, append-nil, false}
use Rattle.std.specs.Prelude.{All}
use Rattle.std.proofs.lemmas.List.Elements.{All-cons, All-head, All-nil, All-tail}
use Rattle.atomic_table.specs.Seated.{TableId}
use Rattle.kept_rows.specs.Gifts.{Given}
use Rattle.sync_board.specs.Boards.{BoardState}
use Rattle.turn_lock.specs.Seats.{IsIdleAt}
use Rattle.turn_lock.specs.declared.seats.TurnSeat.{TurnSeat}
use Rattle.board_turns.specs.Places.{Place}
use Rattle.board_turns.specs.Seats.{place_of, IsSeat}
use Rattle.board_turns.proofs.Places.{rests_at}

-- nothing is left, so all is in front
pub all_taken : {A : Type 0} (front rest all : List A) → front ++ rest ≡ all → length rest ≡ 0 → front ≡ all
all_taken front [] all e none = sym (append-nil front) ∙ e
all_taken front (x ∷ rest) all e none = absurd (omega (arith, none))

unmapped : {A B : Type 0} (P : B → Type 0) (f : A → B) (xs : List A) → All P (map f xs) → All (λ x. P (f x)) xs
unmapped P f [] all = All-nil (λ x. P (f x))
unmapped P f (x ∷ xs) all = All-cons (λ y. P (f y)) x xs (All-head P (f x) (map f xs) all)
    (unmapped P f xs (All-tail P (f x) (map f xs) all))

module _ {V : Type 0} (name : TableId) (first : BoardState) (seats : List (TurnSeat V Given BoardState)) where
  pub all_rest : (places : List Place) → map place_of seats ≡ places → All IsSeat seats →
      All (λ (place : Place). place.turn ≡ record { table = name; first = first }) places →
      All (λ (place : Place). place.holds ≡ false) places → All (IsIdleAt name first) seats
  all_rest places same are turn rest = λ k d within. rests_at _ name first (are k d within)
      (unmapped (λ (place : Place). place.turn ≡ record { table = name; first = first }) place_of seats
      (subst (All (λ (place : Place). place.turn ≡ record { table = name; first = first })) (sym same) turn)
      k d within)
      (unmapped (λ (place : Place). place.holds ≡ false) place_of seats
      (subst (All (λ (place : Place). place.holds ≡ false)) (sym same) rest) k d within)
