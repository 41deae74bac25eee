use Rattle.std.proofs.Common.{rules, ap, ◌∙◌, ◌∷◌}
use Rattle.std.specs.Prelude.{Some}
use Rattle.atomic_table.specs.Table.{rest}
use Rattle.turn_lock.proofs.Moves.{hands_on_at}
use Rattle.turn_lock.proofs.seats.Turn.give.Goals as goal

pub fetch_add-served-requires : goal.fetch_add-served-requires
fetch_add-served-requires g c =
    let own = c.requires.own in
    let held = c.exchange.ensures.3 ∙ ap (λ m. (m.0, (0, Some c.args.value) ∷ rest m.1)) c.requires.holds.2 in
    (search rules, search rules, hands_on_at g.V.Listed.list g.V.Listed.owner g.V.Listed.origin _ _ _ _ _ _ _ _ own.0 _ _ c.args.value held own.1 own.2 c.requires.origin)
