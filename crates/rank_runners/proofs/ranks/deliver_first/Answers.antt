use Rattle.rank_runners.proofs.OneStep.{delivery_made, none_delivered}
use Rattle.rank_runners.proofs.ranks.deliver_first.Goals as goal

pub returns-in-Ended : goal.returns-in-Ended
returns-in-Ended c =
    none_delivered c.in_ok-drain.field-0 c.args.agent.now c.drain.new.self c.args.memory.now c.drain.new.mem _
    c.in-Ended.is c.in_ok-drain.ensures.answer

pub returns-in_default : goal.returns-in_default
returns-in_default c =
    delivery_made c.in_ok-drain.field-0 c.args.agent.now c.drain.new.self c.args.memory.now c.drain.new.mem _
    c.in_default.not-Ended
    c.requires.between c.in_ok-drain.ensures.answer c.in_ok-drain.ensures.told
