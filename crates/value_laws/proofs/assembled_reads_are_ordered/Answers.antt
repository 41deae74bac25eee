-- The clause joins those of the calls.
use Rattle.value_laws.proofs.assembled_reads_are_ordered.Goals as goal

pub returns : goal.returns
returns c = record {
  reads = λ script delay seed run formed is. c.reads_are_ordered.ensures script delay run formed
      (c.assembled_runs_are_lawful.ensures.lawful script delay seed run is)
      (c.assembled_runs_agree.ensures script delay seed run is);
}
