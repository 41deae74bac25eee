-- Each run is computed.
use Rattle.std.specs.Fmt.{digits}
use Rattle.std.specs.Prelude.{refl}
use Rattle.run_texts.specs.Report.{report}
use Rattle.step_runs.specs.StepRun.{step_run}
use Rattle.run_examples.specs.Fences.{IsReadAfterTheFence, IsRefusedAtTheEndOfThePart, CountsInUnitsOfTheTarget}
use Rattle.run_examples.specs.Fences.{ReachesSpaceAndMemory, HasALineForEach32Bytes, EndsWithoutCalls}
use Rattle.run_examples.proofs.fences.puts_between_fences.Goals as goal

one_put : IsReadAfterTheFence
unfolding step_run report digits
one_put = (refl, refl, refl)

past_the_end : IsRefusedAtTheEndOfThePart
unfolding step_run report digits
past_the_end = (refl, refl, refl)

two_units : CountsInUnitsOfTheTarget
unfolding step_run report digits
two_units = (refl, refl, refl)

space_and_memory : ReachesSpaceAndMemory
unfolding step_run report digits
space_and_memory = (refl, refl, refl)

far_stores : HasALineForEach32Bytes
unfolding step_run report digits
far_stores = (refl, refl, refl)

no_calls : EndsWithoutCalls
unfolding step_run report digits
no_calls = (refl, refl, refl)

pub returns : goal.returns
returns c = record {
  one_put = one_put;
  past_the_end = past_the_end;
  two_units = two_units;
  space_and_memory =
      space_and_memory;
  far_stores = far_stores;
  no_calls = no_calls;
}
