-- Each clause is a theorem.
use Rattle.step_laws.proofs.Memory.{pieces_inside}
use Rattle.step_laws.proofs.SoundRuns.{accesses_lie}
use Rattle.step_laws.proofs.accesses_lie_in_memory.Goals as goal

pub returns : goal.returns
returns c = record { accesses = accesses_lie; pieces = pieces_inside }
