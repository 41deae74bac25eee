use Rattle.std.proofs.Common.{◌∙◌, ap}
use Rattle.std.specs.Prelude.{not, ◌&&◌}
use Rattle.rank_runners.specs.RankSets.{has}
use Rattle.rank_runners.specs.declared.rank_sets.RankSet.{RankSet}
use Rattle.rank_runners.proofs.NextRanks.{next_is}
use Rattle.rank_runners.proofs.runners.Runner.next_rank.Goals as goal

pub returns : goal.returns
returns c =
    next_is c.args.self.now c.pick.new.self c.outside-ready.result c.args.ranks c.pick.result c.args.order
    c.requires.ranks
    (λ rank h. c.outside-ready.ensures rank h
    ∙ ap (λ (waits : RankSet). not (has c.args.self.now.ended rank) && not (has waits rank)) c.waiting.ensures)
    c.pick.ensures
