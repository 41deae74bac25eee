use Rattle.shared_ranks.proofs.Lived.{DrainsOn}
use Rattle.shared_ranks.proofs.ranks.Rank.drain.Given as goal

-- the rank delivers what is pending, and does nothing else
abbrev pub invariant-loop : goal.invariant-loop
invariant-loop g l =
    (goal.iterator-loop g).can_next l.iterator' × (goal.iterator-loop g).is_finite l.iterator'
    × DrainsOn g.M.Memory.face g.M.Memory.knows l.initial.self l.self
