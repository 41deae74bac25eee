-- What is lawful without delay is lawful with drawn ones.
use Rattle.rma_types.specs.declared.schedules.Delay.TheVariants as delay
use Rattle.order_tests.proofs.plays.run_of.Goals as goal

pub returns : goal.returns
returns c = record {
  lawful = c.order_of_a_run.ensures.drawn c.args.script.now delay.None c.in_ok-run.run'
      c.in_ok-run.ensures.lawful;
  agrees = c.in_ok-run.ensures.agrees;
}
