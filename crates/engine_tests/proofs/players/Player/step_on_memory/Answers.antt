use Rattle.std.proofs.lemmas.Result.{IfOk-weaker}
use Rattle.engine_tests.proofs.KeptSeats.{step_goes}
use Rattle.engine_tests.proofs.players.Player.step_on_memory.Goals as goal

pub returns-clause-goes_on : goal.returns-clause-goes_on
returns-clause-goes_on c = IfOk-weaker c.next_data.result _ _ (λ turned answer. step_goes turned _ _ _ _ _ answer)
    c.next_data.ensures.answer
