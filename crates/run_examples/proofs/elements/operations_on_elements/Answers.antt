-- Each run is computed.
use Rattle.std.specs.Fmt.{digits}
use Rattle.std.specs.Prelude.{refl}
use Rattle.run_texts.specs.Report.{report}
use Rattle.step_runs.specs.StepRun.{step_run}
use Rattle.run_examples.specs.Elements.{WrapsAndKeepsNeighbours, WrapsInBothCells, OperatesOnItsRange, SwapsWhatIsEqual}
use Rattle.run_examples.specs.Elements.{HasPlaceOne, RefusesOperations}
use Rattle.run_examples.proofs.elements.operations_on_elements.Goals as goal

sum_of_a_byte : WrapsAndKeepsNeighbours
unfolding step_run report digits
sum_of_a_byte = (refl, refl, refl)

sums_in_a_lock : WrapsInBothCells
unfolding step_run report digits
sums_in_a_lock = (refl, refl, refl)

operations : OperatesOnItsRange
unfolding step_run report digits
operations = refl

two_swaps : SwapsWhatIsEqual
unfolding step_run report digits
two_swaps = (refl, refl, refl)

second_place : HasPlaceOne
unfolding step_run report digits
second_place = refl

wrong_operations : RefusesOperations
unfolding step_run report digits
wrong_operations = (refl, refl, refl)

pub returns : goal.returns
returns c = record {
  sum_of_a_byte = sum_of_a_byte;
  sums_in_a_lock = sums_in_a_lock;
  operations = operations;
  two_swaps
      = two_swaps;
  second_place = second_place;
  wrong_operations = wrong_operations;
}
