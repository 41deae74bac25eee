-- The clause is a theorem.
use Rattle.step_laws.proofs.SoundRuns.{numbers_agree}
use Rattle.step_laws.proofs.window_numbers_agree.Goals as goal

pub returns : goal.returns
returns c = numbers_agree
