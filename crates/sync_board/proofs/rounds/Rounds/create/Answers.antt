use Rattle.sync_board.specs.Rounds.{flavor_in}
use Rattle.sync_board.proofs.RoundSteps.{values_more}
use Rattle.sync_board.proofs.rounds.Rounds.create.Goals as goal

pub returns-in-Ok-clause-ok : goal.returns-in-Ok-clause-ok
returns-in-Ok-clause-ok c = λ d call is kept. record {
  created = rw c.in-Ok.ensures.items
      (values_more flavor_in c.args.self.now.created.items d.creations c.args.flavor call kept.created is);
  freed = kept.freed;
  fences = kept.fences;
}
