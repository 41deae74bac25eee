use Rattle.rma_program.proofs.StepMode.{steps_alone}
use Rattle.rma_program.proofs.tops.rma_main.Goals as goal

pub step_main-requires-clause-step : goal.step_main-requires-clause-step
step_main-requires-clause-step g c = steps_alone _ c.in-Ok.options c.in-Ok.ensures.ok
