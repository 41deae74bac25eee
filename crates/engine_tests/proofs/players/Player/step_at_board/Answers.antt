use Rattle.std.proofs.Common.{refl}
use Rattle.std.proofs.lemmas.Result.{IfOk-weaker}
use Rattle.engine_tests.proofs.KeptSeats.{entry_goes}
use Rattle.engine_tests.proofs.players.Player.step_at_board.Goals as goal

pub returns-clause-goes_on : goal.returns-clause-goes_on
returns-clause-goes_on c = IfOk-weaker c.next_board.result _ _ (λ turned answer.
    (entry_goes turned _ _ _ _ _ _ c.has_room.ensures c.requires.seated answer).0) c.next_board.ensures.answer

-- a note of the cells always tells its front
pub returns-clause-gifts : goal.returns-clause-gifts
returns-clause-gifts c =
    IfOk-weaker c.next_board.result _ _ (λ turned told. told (λ token. refl)) c.next_board.ensures.gifts

pub returns-clause-gains : goal.returns-clause-gains
returns-clause-gains c = IfOk-weaker c.next_board.result _ _ (λ turned answer.
    (entry_goes turned _ _ _ _ _ _ c.has_room.ensures c.requires.seated answer).1) c.next_board.ensures.answer
