-- Each run and its order are computed.
use Rattle.std.specs.Prelude.{refl}
use Rattle.step_runs.specs.StepRun.{step_run}
use Rattle.order_rules.specs.Findings.{findings}
use Rattle.order_examples.specs.Posts.{FindsTheGetBeforeTheWait}
use Rattle.order_examples.proofs.posts.findings_of_a_post.Goals as goal

completed : FindsTheGetBeforeTheWait
unfolding step_run findings
completed = refl

pub returns : goal.returns
returns c = record { completed = completed }
