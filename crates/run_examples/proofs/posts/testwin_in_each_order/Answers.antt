-- Each run is computed.
use Rattle.std.specs.Fmt.{digits}
use Rattle.std.specs.Prelude.{refl}
use Rattle.run_texts.specs.Report.{report}
use Rattle.step_runs.specs.StepRun.{step_run}
use Rattle.run_examples.specs.Posts.{TestsInRobin, TestsInReverse, TestsInGreedy, TestsInSeeded}
use Rattle.run_examples.proofs.posts.testwin_in_each_order.Goals as goal

robin : TestsInRobin
unfolding step_run report digits
robin = (refl, refl, refl)

reverse : TestsInReverse
unfolding step_run report digits
reverse = (refl, refl, refl)

greedy : TestsInGreedy
unfolding step_run report digits
greedy = (refl, refl, refl)

seeded : TestsInSeeded
unfolding step_run report digits
seeded = (refl, refl, refl)

pub returns : goal.returns
returns c = record { robin = robin; reverse = reverse; greedy = greedy; seeded = seeded }
