use Rattle.std.proofs.Common.{rules, ap, ◌∙◌, []}
use Rattle.turn_lock.specs.Views.{both, telling}
use Rattle.turn_lock.proofs.Seating.{tells, joins, learns_at}
use Rattle.turn_lock.proofs.seats.Turn.catch_up.Goals as goal

pub split_seat-told-requires : goal.split_seat-told-requires
split_seat-told-requires g c = (search rules, search rules, tells g.V.Listed.list g.V.Listed.owner g.V.Listed.origin _ _ _ _)

pub join_seat-requires : goal.join_seat-requires
join_seat-requires g c =
    let told = c.split_seat-told.ensures.4 in (
      search rules,
      search rules,
      search rules,
      search rules,
      joins g.V.Listed.list g.V.Listed.owner g.V.Listed.origin _ _ _ _ _ _ (ap (λ m. m.0.ticket) told) (ap (λ m. m.0.inside) told),
    )

pub load-requires : goal.load-requires
load-requires g c =
    let told = c.split_seat-told.ensures.4 ∙ ap (λ m. (telling m.0, [])) c.requires.other.1 in
    let heard = c.join_seat.ensures.2 ∙ (λ i. (both (c.requires.seat.1 i).0 (told i).0, (c.requires.seat.1 i).1)) in
    (search rules, search rules, learns_at g.V.Listed.list g.V.Listed.owner g.V.Listed.origin _ _ _ _ _ _ _ _ _ _ heard)
