use Rattle.std.proofs.Common.{◌≡◌, ap, ◌∙◌, sym, subst}
use Rattle.sync_board.specs.Boards.{rank_of}
use Rattle.turn_lock.specs.Lists.{of}
use Rattle.turn_lock.specs.Seats.{number_of, given_by, known_by}
use Rattle.board_turns.specs.Places.{Place, AddsOthers}
use Rattle.board_turns.proofs.Lists.{adds_others, own_stays}
use Rattle.board_turns.proofs.Places.{idle_seat}
use Rattle.board_turns.proofs.turns.BoardTurnTurning.catch_up.Goals as goal

pub invariant_of-seat : goal.invariant_of-seat
invariant_of-seat g c =
    let seat = c.seat.inside.seat in
    let new = c.catch_up.new.seat in
    let ends = c.catch_up.ensures in
    let own = own_stays rank_of (number_of seat) (known_by seat) (known_by new) (given_by seat) ends.old c.seat.invariant.own ends.own in
    idle_seat new _ _ ends.idle (ap (λ n. of rank_of n (known_by new)) ends.same.0 ∙ own ∙ sym ends.same.1)

pub returns-clause-others : goal.returns-clause-others
returns-clause-others g c =
    let seat = c.seat.inside.seat in
    let new = c.catch_up.new.seat in
    let ends = c.catch_up.ensures in
    let own = own_stays rank_of (number_of seat) (known_by seat) (known_by new) (given_by seat) ends.old c.seat.invariant.own ends.own in
    subst (λ (p : Place). AddsOthers p.number p.known (known_by new)) c.seat.view_is
    (adds_others rank_of (number_of seat) (known_by seat) (known_by new) (given_by seat) ends.old c.seat.invariant.own own)
