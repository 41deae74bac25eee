-- Each run is computed.
use Rattle.std.specs.Fmt.{digits}
use Rattle.std.specs.Prelude.{refl}
use Rattle.run_texts.specs.Report.{report}
use Rattle.step_runs.specs.StepRun.{step_run}
use Rattle.run_examples.specs.Deliveries.{GivesWayToTheFirstSum, GivesWayThroughAnother, CompletesByFlushes}
use Rattle.run_examples.specs.Deliveries.{DrawsByTheGenerator, DrawsForEachRank, DeliversAtAnOddDraw, WaitsAtAnEvenDraw}
use Rattle.run_examples.specs.Deliveries.{DeliversTheFirst, DeliversTheSecond}
use Rattle.run_examples.proofs.deliveries.touches_that_are_due.Goals as goal

gives_way : GivesWayToTheFirstSum
unfolding step_run report digits
gives_way = (refl, refl, refl)

gives_way_twice : GivesWayThroughAnother
unfolding step_run report digits
gives_way_twice = (refl, refl, refl)

flushes : CompletesByFlushes
unfolding step_run report digits
flushes = (refl, refl, refl)

draws : DrawsByTheGenerator
unfolding step_run report digits
draws = refl

draws_of_ranks : DrawsForEachRank
unfolding step_run report digits
draws_of_ranks = refl

odd_draw : DeliversAtAnOddDraw
unfolding step_run report digits
odd_draw = (refl, refl, refl)

even_draw : WaitsAtAnEvenDraw
unfolding step_run report digits
even_draw = (refl, refl, refl)

first_drawn : DeliversTheFirst
unfolding step_run report digits
first_drawn = (refl, refl, refl)

second_drawn : DeliversTheSecond
unfolding step_run report digits
second_drawn = (refl, refl, refl)

pub returns : goal.returns
returns c = record {
  gives_way = gives_way;
  gives_way_twice = gives_way_twice;
  flushes = flushes;
  draws = draws;
  draws_of_ranks = draws_of_ranks;
  odd_draw = odd_draw;
  even_draw = even_draw;
  first_drawn = first_drawn;
  second_drawn
      = second_drawn;
}
