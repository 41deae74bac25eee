use Rattle.std.proofs.Common.{rules, ◌≡◌, ◌<◌, ◌≤◌, ◌+◌, [], ◌∷◌, ◌++◌, length, map, ap, ◌∙◌, sym, subst, arith}
use lib.ListN.{length-map}
use Rattle.std.specs.Prelude.{All, Some, slice_get}
use Rattle.std.proofs.lemmas.List.{append_assoc}
use Rattle.std.proofs.lemmas.List.Elements.{All-head, All-tail}
use Rattle.board_turns.specs.Seats.{place_of, IsSeat}
use Rattle.board_turns.proofs.NewSeats.{all_moved, all_seats, new_places}
use Rattle.board_turns.proofs.seats.BoardTurn.new.Goals as goal

pub loop-seat-init : goal.loop-seat-init
loop-seat-init g c =
    let made = c.in_ok-turn.ensures in
    let same = c.into_iter-seat-iterator.ensures.into_iter_gives.0 in
    let none : c.in_ok-places.places.items ≡ [] = search rules in (
      ap (λ places. places ++ map place_of c.into_iter-seat-iterator.result.rest.items) none,
      subst (All IsSeat) (sym same) (all_seats _ _ c.in_ok-turn.free.items made.idle made.fresh),
      search rules,
    )

pub invariant_of-push_reserved : goal.invariant_of-push_reserved
invariant_of-push_reserved g c =
    let rest = c.in-Some.ensures.steps.0 in
    All-head IsSeat c.in-Some.seat c.next.new.self.rest.items (subst (All IsSeat) rest c.loop-seat.invariant.1)

pub loop-seat-preserved : goal.loop-seat-preserved
loop-seat-preserved g c =
    let inv = c.loop-seat.invariant in
    let rest = c.in-Some.ensures.steps.0 in
    let more = map place_of c.next.new.self.rest.items in (
      ap (λ places. places ++ more) c.push_reserved.ensures.items
          ∙ append_assoc c.loop-seat.places.items (place_of c.in-Some.seat ∷ []) more
          ∙ ap (λ items. c.loop-seat.places.items ++ map place_of items) (sym rest) ∙ inv.0,
      All-tail IsSeat c.in-Some.seat c.next.new.self.rest.items (subst (All IsSeat) rest inv.1),
      search rules,
    )

pub returns-clause-count : goal.returns-clause-count
returns-clause-count g c =
    let free = c.in_ok-turn.free.items in
    let same = c.into_iter-seat-iterator.ensures.into_iter_gives.0 in
    let rest = c.loop-seat.seat-iterator.rest in
    let all = all_moved place_of c.loop-seat.places.items rest.items free
    (c.loop-seat.invariant.0 ∙ ap (λ seats. map place_of seats) same) (sym rest.ok.0 ∙ c.in-None.ensures.steps.0) in
    ap length all ∙ length-map free place_of ∙ c.in_ok-turn.ensures.count.1

pub returns-clause-new : goal.returns-clause-new
returns-clause-new g c = λ k lt.
    let free = c.in_ok-turn.free.items in
    let made = c.in_ok-turn.ensures in
    let same = c.into_iter-seat-iterator.ensures.into_iter_gives.0 in
    let rest = c.loop-seat.seat-iterator.rest in
    let all = all_moved place_of c.loop-seat.places.items rest.items free
    (c.loop-seat.invariant.0 ∙ ap (λ seats. map place_of seats) same) (sym rest.ok.0 ∙ c.in-None.ensures.steps.0) in
    ap (λ items. slice_get items k) all
    ∙ new_places _ _ free made.idle made.fresh made.numbers k (let count = made.count.1 in omega (arith, lt, count))
