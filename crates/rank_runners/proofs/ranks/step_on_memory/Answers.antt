use Rattle.rank_runners.proofs.OneStep.{step_made}
use Rattle.rank_runners.proofs.ranks.step_on_memory.Goals as goal

pub returns : goal.returns
returns c =
    step_made c.in_ok-next_data.field-0 c.args.agent.now c.next_data.new.self c.args.memory.now c.next_data.new.mem _
    c.has_room.ensures
    c.requires.between c.in_ok-next_data.ensures.answer c.in_ok-next_data.ensures.told
