-- Each run is computed.
use Rattle.std.specs.Fmt.{digits}
use Rattle.std.specs.Prelude.{refl}
use Rattle.run_texts.specs.Report.{report}
use Rattle.step_runs.specs.StepRun.{step_run}
use Rattle.run_examples.specs.Epochs.{RefusesBeforeAFence, RefusesOutsideEpochs, EndsFencesByNosucceed}
use Rattle.run_examples.specs.Epochs.{RefusesAnotherAssertion, RefusesByEachTest, RefusesAssertionsAndRanks}
use Rattle.run_examples.specs.Epochs.{FollowsTheEpochs}
use Rattle.run_examples.proofs.epochs.refusals.Goals as goal

before_a_fence : RefusesBeforeAFence
unfolding step_run report digits
before_a_fence = (refl, refl, refl)

outside_epochs : RefusesOutsideEpochs
unfolding step_run report digits
outside_epochs = (refl, refl, refl)

no_succeeding : EndsFencesByNosucceed
unfolding step_run report digits
no_succeeding = (refl, refl, refl)

two_assertions : RefusesAnotherAssertion
unfolding step_run report digits
two_assertions = (refl, refl, refl)

each_test : RefusesByEachTest
unfolding step_run report digits
each_test = (refl, refl, refl)

assertions_and_ranks : RefusesAssertionsAndRanks
unfolding step_run report digits
assertions_and_ranks = (refl, refl, refl)

each_epoch : FollowsTheEpochs
unfolding step_run report digits
each_epoch = (refl, refl, refl)

pub returns : goal.returns
returns c = record {
  before_a_fence = before_a_fence;
  outside_epochs = outside_epochs;
  no_succeeding = no_succeeding;
  two_assertions = two_assertions;
  each_test = each_test;
  assertions_and_ranks = assertions_and_ranks;
  each_epoch =
      each_epoch;
}
