-- Each run is computed.
use Rattle.std.specs.Fmt.{digits}
use Rattle.std.specs.Prelude.{refl}
use Rattle.run_texts.specs.Report.{report}
use Rattle.step_runs.specs.StepRun.{step_run}
use Rattle.run_examples.specs.Posts.{ReportsTheGetBeforeTheWait, RefusesALockOfAPostedRank, LooksAfterThePost}
use Rattle.run_examples.specs.Posts.{RefusesAPostOfALockedRank}
use Rattle.run_examples.proofs.posts.posts_and_locks.Goals as goal

wait_of_the_target : ReportsTheGetBeforeTheWait
unfolding step_run report digits
wait_of_the_target = (refl, refl, refl)

lock_of_a_posted_rank : RefusesALockOfAPostedRank
unfolding step_run report digits
lock_of_a_posted_rank = (refl, refl, refl)

look_of_the_refusal : LooksAfterThePost
unfolding step_run report digits
look_of_the_refusal = (refl, refl)

post_of_a_locked_rank : RefusesAPostOfALockedRank
unfolding step_run report digits
post_of_a_locked_rank = (refl, refl, refl)

pub returns : goal.returns
returns c = record {
  wait_of_the_target = wait_of_the_target;
  lock_of_a_posted_rank = lock_of_a_posted_rank;
  look_of_the_refusal = look_of_the_refusal;
  post_of_a_locked_rank = post_of_a_locked_rank;
}
