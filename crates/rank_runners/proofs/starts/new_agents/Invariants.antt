use Rattle.std.proofs.Common.{◌≡◌, ℕ, [], map}
use Rattle.call_rules.specs.Pieces.{numbers_from}
use Rattle.rank_engine.specs.RankStates.{new_state}
use Rattle.rank_runners.proofs.starts.new_agents.Given as goal

-- the ranks so far
abbrev pub invariant-loop-rank : goal.invariant-loop-rank
invariant-loop-rank l =
    l.agents.items ≡ map (λ (rank : ℕ). new_state l.script l.delay l.seed rank 4294967295 []) (numbers_from 0 l.rank)
