use Rattle.std.proofs.Common.{rules, ◌≡◌, ◌∙◌, sym, subst, Some}
use Rattle.std.specs.Prelude.{IfSome, Option}
use Rattle.kept_rows.specs.Gifts.{Given}
use Rattle.sync_board.specs.Boards.{BoardState, rank_of}
use Rattle.turn_lock.specs.Lists.{of, AddsOwn}
use Rattle.turn_lock.specs.Seats.{number_of, given_by, known_by}
use Rattle.board_turns.specs.Places.{Place}
use Rattle.board_turns.proofs.Lists.{own_grows}
use Rattle.board_turns.proofs.Places.{idle_seat}
use Rattle.board_turns.proofs.turns.BoardTurnTurning.give.Goals as goal

-- the board that was there goes on by entries of the seat
own_of : (board : Option BoardState) (given : BoardState) (old place : Place) → board ≡ Some given → place ≡ old
    → IfSome board (λ (one : BoardState). AddsOwn rank_of old.number old.known one.entries) → AddsOwn rank_of place.number place.known given.entries
own_of board given old place some same own =
    subst (λ (p : Place). AddsOwn rank_of p.number p.known given.entries) (sym same)
    (subst (λ (o : Option BoardState). IfSome o (λ (one : BoardState). AddsOwn rank_of old.number old.known one.entries)) some own)

pub give-requires-clause-own : goal.give-requires-clause-own
give-requires-clause-own g c =
    let some : c.args.board.now ≡ Some c.in-Some.board = search rules in
    own_of c.args.board.now c.in-Some.board c.args.seat.now _ some c.seat.view_is c.requires.own

pub invariant_of-seat : goal.invariant_of-seat
invariant_of-seat g c =
    let seat = c.seat.inside.seat in
    let ends = c.give.ensures in
    let some : c.args.board.now ≡ Some c.in-Some.board = search rules in
    let own = own_of c.args.board.now c.in-Some.board c.args.seat.now _ some c.seat.view_is c.requires.own in
    let grown = own_grows rank_of (number_of seat) (known_by seat) c.in-Some.board.entries (given_by seat) own c.seat.invariant.own in
    idle_seat c.give.new.seat _ _ ends.idle ((λ i. of rank_of (ends.number i) (ends.knows i)) ∙ grown ∙ sym ends.gave)
