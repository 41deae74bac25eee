use Rattle.std.proofs.Common.{◌≡◌, ap, ◌∙◌, sym, subst}
use mathlib.Core.List.{IsPrefix}
use Rattle.kept_rows.specs.Gifts.{Given}
use Rattle.sync_board.specs.Boards.{rank_of}
use Rattle.turn_lock.specs.Lists.{of}
use Rattle.turn_lock.specs.Seats.{number_of, given_by, known_by}
use Rattle.board_turns.specs.Places.{Place, AddsOthers}
use Rattle.board_turns.proofs.Lists.{adds_others}
use Rattle.board_turns.proofs.Places.{holds_seat}
use Rattle.board_turns.proofs.turns.BoardTurnTurning.take.Goals as goal

pub invariant_of-seat : goal.invariant_of-seat
invariant_of-seat g c =
    let same = c.take.ensures.same in
    let knows = c.take.ensures.knows in
    holds_seat c.take.new.seat _ _ c.take.ensures.holds ((λ i. of rank_of (same.0 i) (knows i)) ∙ c.take.ensures.own ∙ sym same.1)

pub returns-clause-others : goal.returns-clause-others
returns-clause-others g c =
    let seat = c.seat.inside.seat in
    let knows = c.take.ensures.knows in
    let goes_on = subst (IsPrefix (known_by seat)) (sym knows) c.take.ensures.goes_on in
    let own = ap (of rank_of (number_of seat)) knows ∙ c.take.ensures.own in
    subst (λ (p : Place). AddsOthers p.number p.known (known_by c.take.new.seat)) c.seat.view_is
    (adds_others rank_of (number_of seat) (known_by seat) (known_by c.take.new.seat) (given_by seat) goes_on c.seat.invariant.own own)
