use Rattle.std.proofs.Common.{◌≡◌, map}
use Rattle.rma_record.specs.Kept.{Kept}
use Rattle.rank_engine.specs.RankStates.{RankState}
use Rattle.rank_runners.proofs.ends.logs_of.Given as goal

abbrev pub invariant-loop-agent : goal.invariant-loop-agent
invariant-loop-agent l = record {
  next : (goal.iterator-loop-agent).can_next l.agent-iterator;
  finite : (goal.iterator-loop-agent).is_finite l.agent-iterator;
  logs : map (λ (log : Kept). log.items) l.logs.items ≡ map (λ (state : RankState). state.agent.log) l.yielded;
}
