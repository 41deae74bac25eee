-- Each run and its order are computed.
use Rattle.std.specs.Prelude.{refl}
use Rattle.step_runs.specs.StepRun.{step_run}
use Rattle.order_rules.specs.Findings.{findings}
use Rattle.order_examples.specs.Posts.{FindsNoneInTwoRounds, IsDoneAtItsOwnWait}
use Rattle.order_examples.proofs.posts.findings_of_two_rounds.Goals as goal

rounds : FindsNoneInTwoRounds
unfolding step_run findings
rounds = refl

done : IsDoneAtItsOwnWait
unfolding step_run findings
done = (refl, refl)

pub returns : goal.returns
returns c = record { rounds = rounds; done = done }
