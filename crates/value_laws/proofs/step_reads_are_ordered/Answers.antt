-- The clauses join those of the calls.
use Rattle.step_runs.specs.StepRun.{step_run}
use Rattle.value_laws.proofs.step_reads_are_ordered.Goals as goal

pub returns : goal.returns
returns c = record {
  agree = λ script order delay seed formed. c.assembled_runs_agree.ensures script delay seed
      (step_run script order delay seed) (c.step_run_is_assembled.ensures.assembled script order delay seed formed);
  reads = λ script order delay seed formed. c.reads_are_ordered.ensures script delay
      (step_run script order delay seed) formed
      (c.step_run_is_assembled.ensures.lawful script order delay seed formed)
      (c.assembled_runs_agree.ensures script delay seed (step_run script order delay seed)
      (c.step_run_is_assembled.ensures.assembled script order delay seed formed));
}
