use Rattle.std.proofs.Common.{rules}
use Rattle.turn_lock.proofs.Moves.{draws_at}
use Rattle.turn_lock.proofs.seats.Turn.draw.Goals as goal

pub fetch_add-requires : goal.fetch_add-requires
fetch_add-requires g c = (search rules, search rules, draws_at g.V.Listed.list g.V.Listed.owner g.V.Listed.origin _ _ _ _ _ _ _ _ _ c.requires.1)
