use Rattle.rank_runners.proofs.Picks.{picked_some, picked_none, is_sought}
use Rattle.rank_runners.proofs.schedules.Turns.pick.Goals as goal

pub returns-in-Some : goal.returns-in-Some
returns-in-Some c =
    picked_some c.args.order c.args.self.now c.args.ready c.args.ranks c.in-Some.rank
    (is_sought c.args.order c.in_default.not-Seeded)
    c.requires.last c.in-Some.ensures

pub returns-in-None : goal.returns-in-None
returns-in-None c =
    picked_none c.args.order c.args.self.now c.args.ready c.args.ranks
    (is_sought c.args.order c.in_default.not-Seeded) c.in-None.ensures
