use Rattle.shared_ranks.proofs.Turns.{LeadsOn}
use Rattle.shared_ranks.proofs.ranks.Rank.go_on.Given as goal

-- the rank is still one of each run in which it was one
abbrev pub invariant-loop : goal.invariant-loop
invariant-loop g l =
    (goal.iterator-loop g).can_next l.iterator' × (goal.iterator-loop g).is_finite l.iterator'
    × LeadsOn g.M.Memory.face g.M.Memory.knows l.initial.self l.self
