use Rattle.cell_words.specs.Holders.{face_of}
use Rattle.engine_tests.specs.Seated.{GoesOn}
use Rattle.engine_tests.proofs.players.Player.play.Given as goal

-- the steps so far
abbrev pub invariant-loop-step : goal.invariant-loop-step
invariant-loop-step l = GoesOn l.fn.self.agent l.self.agent l.fn.board l.board (face_of l.self.memory)
