use Rattle.std.proofs.Common.{rules, ◌≡◌, ◌≤◌, ◌+◌, List, [], ◌∷◌, ◌++◌, length, map, ap, ◌∙◌, sym, subst}
use mathlib.Core.List.{IsPrefix}
use Rattle.std.specs.Prelude.{All}
use Rattle.std.proofs.lemmas.List.{append_assoc, map-append}
use Rattle.std.proofs.lemmas.List.Elements.{All-map, All-push, All-same}
use Rattle.board_turns.specs.Places.{Place, SharedTurn}
use Rattle.board_turns.specs.Seats.{place_of, IsSeat}
use Rattle.board_turns.proofs.ClosedSeats.{all_rest, all_taken}
use Rattle.board_turns.proofs.seats.BoardTurn.close.Goals as goal

pub loop-seat-preserved : goal.loop-seat-preserved
loop-seat-preserved g c =
    let inv = c.loop-seat.invariant in
    let before = c.loop-seat.places.items in
    let seat = c.seat.inside.seat in
    let more = c.next.new.self.rest.items in
    let steps = c.in-Some.ensures.steps.0 in (
      ap (λ seats. map place_of seats ++ more) c.push_reserved.ensures.items
          ∙ ap (λ places. places ++ more) (map-append place_of before (seat ∷ []))
          ∙ append_assoc (map place_of before) (place_of seat ∷ []) more
          ∙ ap (λ places. map place_of before ++ places) ((λ i. c.seat.view_is i ∷ more) ∙ sym steps) ∙ inv.0,
      All-same IsSeat c.push_reserved.new.self.items (before ++ seat ∷ []) c.push_reserved.ensures.items
          (All-push IsSeat before seat inv.1 c.seat.invariant),
      search rules,
    )

pub close-requires-clause-idle : goal.close-requires-clause-idle
close-requires-clause-idle g c =
    let inv = c.loop-seat.invariant in
    let same = c.into_iter-seat-iterator.ensures.into_iter_gives.0 in
    let rest = c.loop-seat.seat-iterator.rest in
    let round = ap (λ (turn : SharedTurn). turn.round) c.self.view_is in
    let all = all_taken (map place_of c.loop-seat.places.items) rest.items c.args.seats.items (inv.0 ∙ same)
    (sym rest.ok.0 ∙ c.in-None.ensures.steps.0) in
    all_rest _ _ c.loop-seat.places.items c.args.seats.items all inv.1
    (λ k d within. c.requires.turn k d within ∙ sym round) c.requires.rest

pub returns-clause-known : goal.returns-clause-known
returns-clause-known g c =
    let inv = c.loop-seat.invariant in
    let same = c.into_iter-seat-iterator.ensures.into_iter_gives.0 in
    let rest = c.loop-seat.seat-iterator.rest in
    let all = all_taken (map place_of c.loop-seat.places.items) rest.items c.args.seats.items (inv.0 ∙ same)
    (sym rest.ok.0 ∙ c.in-None.ensures.steps.0) in
    subst (All (λ (place : Place). IsPrefix place.known c.close.result.entries)) all
    (All-map (λ (place : Place). IsPrefix place.known c.close.result.entries) place_of c.loop-seat.places.items
    c.close.ensures.known)
