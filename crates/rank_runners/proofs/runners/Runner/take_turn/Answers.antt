use Rattle.std.proofs.Common.{refl}
use Rattle.rank_runners.proofs.WholeTurns.{whole_turn}
use Rattle.rank_runners.proofs.runners.Runner.take_turn.Goals as goal

pub returns : goal.returns
returns c =
    whole_turn c.args.self.now c.one_turn.new.self _ c.args.rank c.from.result c.index.result.now
    c.has_ended-has_ended.result c.requires
    c.in_ok-one_turn.ensures refl c.from.ensures c.index.ensures c.has_ended-has_ended.ensures c.with_if-self.ensures
