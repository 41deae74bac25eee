use Rattle.cell_words.specs.Holders.{face_of}
use Rattle.rank_engine.specs.DataAnswers.{HasRoom}
use Rattle.engine_tests.proofs.players.Player.drain.Given as goal

-- the memory has room for what the rank still updates
abbrev pub invariant-loop-step : goal.invariant-loop-step
invariant-loop-step l = HasRoom l.self.agent (face_of l.self.memory)
