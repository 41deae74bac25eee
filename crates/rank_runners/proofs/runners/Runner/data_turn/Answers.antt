use Rattle.std.proofs.Common.{ap, set, refl}
use Rattle.rank_runners.proofs.TurnSteps.{needs_here, room_here, between_here, data_left}
use Rattle.rank_runners.proofs.runners.Runner.data_turn.Goals as goal

pub step_on_memory-requires-clause-needs : goal.step_on_memory-requires-clause-needs
step_on_memory-requires-clause-needs c = needs_here _ _ _ _ _ c.requires c.from.ensures c.index_mut.ensures.value

pub step_on_memory-requires-clause-room : goal.step_on_memory-requires-clause-room
step_on_memory-requires-clause-room c = room_here _ _ _ _ _ c.requires c.from.ensures c.index_mut.ensures.value

pub step_on_memory-requires-clause-between : goal.step_on_memory-requires-clause-between
step_on_memory-requires-clause-between c = between_here _ _ _ _ _ c.requires c.from.ensures c.index_mut.ensures.value

pub returns : goal.returns
returns c = record {
  state = c.step_on_memory.new.agent;
  changed = ap (λ k. set c.args.self.now.agents.items k c.step_on_memory.new.agent) c.from.ensures;
  same_ended = refl;
  goes_on = data_left c.args.self.now c.args.rank c.from.result c.index_mut.result.now c.step_on_memory.new.agent
      c.step_on_memory.new.memory
      c.requires.within c.from.ensures c.index_mut.ensures.value c.in_ok-step_on_memory.ensures;
}
