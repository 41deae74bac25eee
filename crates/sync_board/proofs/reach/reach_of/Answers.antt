use Rattle.sync_board.proofs.reach.reach_of.Goals as goal

pub returns-in-Some : goal.returns-in-Some
returns-in-Some c = rw c.in-Some.is c.reach_one.ensures
