use Rattle.std.proofs.Common.{inl}
use Rattle.rma_program.specs.Answers.{IsRunOf}
use Rattle.rma_program.proofs.tops.run_script.Goals as goal

-- what is lawful with the delay is lawful with drawn ones
pub judge_run-requires-clause-lawful : goal.judge_run-requires-clause-lawful
judge_run-requires-clause-lawful g c = c.order_of_a_run.ensures.drawn c.args.script.now c.args.options.now.delay
    c.in-Ok.run' c.in-Ok.ensures.lawful

-- the run that was found, which is lawful
pub returns-in-Ok-clause-ends : goal.returns-in-Ok-clause-ends
returns-in-Ok-clause-ends g c =
    let is_run : IsRunOf c.args.options.now c.args.script.now c.in-Ok.run' =
    record { steps = c.in-Ok.ensures.steps; lawful = c.in-Ok.ensures.lawful; agrees = c.in-Ok.ensures.agrees } in
    inl (c.in-Ok.run', is_run, c.judge_run.ensures.ends)
