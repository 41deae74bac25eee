-- Each run is computed.
use Rattle.std.specs.Fmt.{digits}
use Rattle.std.specs.Prelude.{refl}
use Rattle.run_texts.specs.Report.{report}
use Rattle.step_runs.specs.StepRun.{step_run}
use Rattle.run_examples.specs.Exchanges.{ExchangesAtOnce, ExchangesAtTheFence, ExchangesAtDrawnMoments}
use Rattle.run_examples.proofs.exchanges.exchange_on_a_ring.Goals as goal

at_once : ExchangesAtOnce
unfolding step_run report digits
at_once = (refl, refl, refl)

at_the_fence : ExchangesAtTheFence
unfolding step_run report digits
at_the_fence = (refl, refl, refl)

at_drawn_moments : ExchangesAtDrawnMoments
unfolding step_run report digits
at_drawn_moments = (refl, refl, refl)

pub returns : goal.returns
returns c = record { at_once = at_once; at_the_fence = at_the_fence; at_drawn_moments = at_drawn_moments }
