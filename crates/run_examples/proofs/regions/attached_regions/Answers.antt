-- Each run is computed.
use Rattle.std.specs.Fmt.{digits}
use Rattle.std.specs.Prelude.{refl}
use Rattle.run_texts.specs.Report.{report}
use Rattle.step_runs.specs.StepRun.{step_run}
use Rattle.run_examples.specs.Regions.{ReachesAttachedBytes, ReachesAttachedBytesAfterAFence, KeepsRegionsApart}
use Rattle.run_examples.proofs.regions.attached_regions.Goals as goal

between_barriers : ReachesAttachedBytes
unfolding step_run report digits
between_barriers = (refl, refl, refl)

between_fences : ReachesAttachedBytesAfterAFence
unfolding step_run report digits
between_fences = (refl, refl, refl)

regions_of_a_space : KeepsRegionsApart
unfolding step_run report digits
regions_of_a_space = (refl, refl, refl)

pub returns : goal.returns
returns c = record {
  between_barriers = between_barriers;
  between_fences = between_fences;
  regions_of_a_space =
      regions_of_a_space;
}
