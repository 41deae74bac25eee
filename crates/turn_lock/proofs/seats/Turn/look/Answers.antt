use Rattle.std.proofs.Common.{rules, ◌≡◌, ap, sym, ◌∙◌, ◌%◌, ◌^◌}
use Rattle.std.specs.Prelude.{unwrap_or, Some, ◌∷◌}
use Rattle.atomic_table.specs.Table.{rest}
use Rattle.turn_lock.proofs.Moves.{looks_at}
use Rattle.turn_lock.proofs.seats.Turn.look.Goals as goal

pub load-requires : goal.load-requires
load-requires g c = (search rules, search rules, looks_at g.V.Listed.list g.V.Listed.owner g.V.Listed.origin _ _ _ _ _ _ _ _ _ _ c.requires.3)

pub exchange-requires : goal.exchange-requires
exchange-requires g c =
    let served : c.load.result ≡ c.args.ticket = search rules in
    let ticket : c.args.ticket ≡ unwrap_or c.args.seat.now.place.me.0.ticket 0 % 2 ^ 64 = c.requires.2 ∙ sym (ap (λ m. unwrap_or m.0.ticket 0 % 2 ^ 64) c.requires.3) in
    let found = c.load.ensures.2.0 (served ∙ ticket) in
    let out = ap (λ m. m.1) found.1 in
    (search rules, (Some found.0, out ∙ ap (λ l. (0, Some found.0) ∷ rest l) (sym out)))
