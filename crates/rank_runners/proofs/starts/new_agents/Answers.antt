use Rattle.std.proofs.Common.{ℕ, []}
use Rattle.rank_engine.specs.RankStates.{new_state}
use Rattle.rank_runners.proofs.FirstWorlds.{one_agent_more}
use Rattle.rank_runners.proofs.starts.new_agents.Goals as goal

pub loop-rank-preserved : goal.loop-rank-preserved
loop-rank-preserved c =
    one_agent_more (λ (rank : ℕ). new_state c.args.script.now c.args.delay c.args.seed rank 4294967295 [])
    c.loop-rank.rank _ _ _
    c.loop-rank.invariant c.in-Ok.ensures.items c.in_ok-agent.ensures
