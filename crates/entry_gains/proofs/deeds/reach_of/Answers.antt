use Rattle.entry_gains.proofs.deeds.reach_of.Goals as goal

pub returns-in-Some : goal.returns-in-Some
returns-in-Some c = rw c.in-Some.is (c.one_target.ensures c.args.ranks)
