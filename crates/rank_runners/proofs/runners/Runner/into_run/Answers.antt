use Rattle.std.proofs.Common.{◌∙◌, ap}
use Rattle.std.specs.List.{list_all}
use Rattle.rank_engine.specs.RankStates.{RankState}
use Rattle.rank_runners.proofs.LastWorlds.{run_is}
use Rattle.rank_runners.proofs.runners.Runner.into_run.Goals as goal

pub returns : goal.returns
returns c =
    run_is c.args.self.agents.items c.args.self.board c.args.self.memory c.in_ok-logs.logs c.in_ok-memory.memory
    c.have_ended-ended.result
    c.in_ok-logs.ensures c.in_ok-memory.ensures
    (c.have_ended-ended.ensures ∙ ap
    (λ states. list_all (λ (state : RankState). state.agent.ended) states) c.deref.ensures.value)
