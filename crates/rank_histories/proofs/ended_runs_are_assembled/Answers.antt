-- The first clause is a theorem, from which the others follow by those of the calls.
use Rattle.rank_histories.proofs.Assembly as theorems
use Rattle.rank_histories.proofs.ended_runs_are_assembled.Goals as goal

pub returns : goal.returns
returns c = record {
  assembled = theorems.ended_is_assembled;
  lawful = λ script delay seed run is. c.assembled_runs_are_lawful.ensures.lawful script delay seed run
      (theorems.ended_is_assembled script delay seed run is);
  agree = λ script delay seed run is. c.assembled_runs_agree.ensures script delay seed run
      (theorems.ended_is_assembled script delay seed run is);
}
