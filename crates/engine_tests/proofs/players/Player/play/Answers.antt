use Rattle.engine_tests.proofs.KeptSeats.{goes_further}
use Rattle.engine_tests.proofs.players.Player.play.Goals as goal

pub returns-then-rests : goal.returns-then-rests
returns-then-rests c =
    record { goes_on = goes_further _ _ _ _ _ _ _ _ c.loop-step.invariant c.in_ok-taken.ensures.goes_on }

pub loop-step-preserved : goal.loop-step-preserved
loop-step-preserved c = goes_further _ _ _ _ _ _ _ _ c.loop-step.invariant c.in_ok-taken.ensures.goes_on
