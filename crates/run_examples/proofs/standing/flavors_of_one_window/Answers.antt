-- Each run is computed.
use Rattle.std.specs.Fmt.{digits}
use Rattle.std.specs.Prelude.{refl}
use Rattle.run_texts.specs.Report.{report}
use Rattle.step_runs.specs.StepRun.{step_run}
use Rattle.run_examples.specs.Standing.{RefusesTheSecondFlavor, WaitsForTheFlavor, RefusesTheRankDrawnSecond}
use Rattle.run_examples.specs.Standing.{WaitsAsTheRankDrawnFirst}
use Rattle.run_examples.proofs.standing.flavors_of_one_window.Goals as goal

robin : RefusesTheSecondFlavor
unfolding step_run report digits
robin = (refl, refl, refl)

reverse : WaitsForTheFlavor
unfolding step_run report digits
reverse = (refl, refl, refl)

drawn_first : RefusesTheRankDrawnSecond
unfolding step_run report digits
drawn_first = (refl, refl, refl)

drawn_second : WaitsAsTheRankDrawnFirst
unfolding step_run report digits
drawn_second = (refl, refl, refl)

pub returns : goal.returns
returns c = record { robin = robin; reverse = reverse; drawn_first = drawn_first; drawn_second = drawn_second }
