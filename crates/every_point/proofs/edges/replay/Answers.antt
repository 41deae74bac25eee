-- Each entry of the run may come.
use Rattle.vector_clocks.specs.Places.{no_entry}
use Rattle.vector_clocks.proofs.Coming.{number_at, rank_at, written_call}
use Rattle.every_point.proofs.Replaying.{put_at}
use Rattle.every_point.proofs.edges.replay.Goals as goal

pub call_at-call-requires : goal.call_at-call-requires
call_at-call-requires c = number_at c.args.recorded.now c.requires.recorded c.args.order.now c.requires.order c.loop-at.at
    no_entry c.loop-at-test.true

pub enter-requires-clause-written : goal.enter-requires-clause-written
enter-requires-clause-written c =
    written_call c.args.recorded.now.script.now c.requires.recorded.formed _ _ c.call_at-call.result.now
    c.call_at-call.ensures

pub enter-requires-clause-rank : goal.enter-requires-clause-rank
enter-requires-clause-rank c = rank_at c.args.recorded.now c.requires.recorded c.args.order.now c.requires.order
    c.loop-at.at no_entry c.loop-at-test.true

pub loop-at-preserved : goal.loop-at-preserved
loop-at-preserved c = put_at c.args.recorded.now c.requires.recorded c.args.order.now c.requires.order
    c.args.from c.loop-at.at no_entry c.loop-at-test.true
    c.call_at-call.result.now c.call_at-call.ensures c.loop-at.gains c.enter.new.gains
    c.loop-at.led c.put_name.new.led c.in_ok-does_gain.does_gain c.loop-at.invariant c.in_ok-does_gain.ensures
    c.in_ok-put_name.ensures
