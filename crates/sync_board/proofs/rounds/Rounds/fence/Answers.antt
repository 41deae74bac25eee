use Rattle.sync_board.specs.Rounds.{asserts_in}
use Rattle.sync_board.proofs.RoundSteps.{values_more}
use Rattle.sync_board.proofs.rounds.Rounds.fence.Goals as goal

pub returns-in-Ok-clause-ok : goal.returns-in-Ok-clause-ok
returns-in-Ok-clause-ok c = λ d call is kept. record {
  created = kept.created;
  freed = kept.freed;
  fences = rw c.in-Ok.ensures.items
      (values_more asserts_in c.args.self.now.fences.items d.fences c.args.asserts call kept.fences is);
}
