-- Each run and its order are computed.
use Rattle.std.specs.Prelude.{refl}
use Rattle.step_runs.specs.StepRun.{step_run}
use Rattle.order_rules.specs.Findings.{findings}
use Rattle.order_examples.specs.Exchanges.{FindsNoneAtOnce, FindsNoneAtTheFence, FindsNoneAtDrawnMoments}
use Rattle.order_examples.specs.Exchanges.{IsDoneAtEachLeave}
use Rattle.order_examples.specs.Exchanges.{ReadsTheNeighbours}
use Rattle.order_examples.proofs.exchanges.order_of_an_exchange.Goals as goal

at_once : FindsNoneAtOnce
unfolding step_run findings
at_once = refl

at_the_fence : FindsNoneAtTheFence
unfolding step_run findings
at_the_fence = refl

at_drawn_moments : FindsNoneAtDrawnMoments
unfolding step_run findings
at_drawn_moments = refl

done : IsDoneAtEachLeave
unfolding step_run findings
done = refl

ordered_read : ReadsTheNeighbours
unfolding step_run findings
ordered_read = refl

pub returns : goal.returns
returns c = record {
  at_once = at_once;
  at_the_fence = at_the_fence;
  at_drawn_moments = at_drawn_moments;
  done = done;
  ordered_read = ordered_read;
}
