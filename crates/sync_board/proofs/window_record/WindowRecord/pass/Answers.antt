use Rattle.sync_board.proofs.NothingSteps.{nothing_entered}
use Rattle.sync_board.proofs.window_record.WindowRecord.pass.Goals as goal

pub returns : goal.returns
returns c = λ layout q number step nothing kept. nothing_entered layout q number step c.args.self.now nothing kept
