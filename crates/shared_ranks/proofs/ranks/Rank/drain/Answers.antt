use Rattle.shared_ranks.proofs.Lived.{drains_more, lived_whole}
use Rattle.shared_ranks.proofs.ranks.Rank.drain.Goals as goal

pub returns-then-not-branch-clause-lived : goal.returns-then-not-branch-clause-lived
returns-then-not-branch-clause-lived g c =
    let one = c.in_ok-deliver_first.ensures in
    lived_whole g.M.Memory.face g.M.Memory.knows c.args.self.now c.deliver_first.new.self c.requires.stopped
    (drains_more g.M.Memory.face g.M.Memory.knows c.args.self.now c.loop.self c.deliver_first.new.self
    c.loop.invariant.2 one.delivers one.room one.ended one.seat one.memory) (one.over c.if-not-branch.true)

pub loop-preserved : goal.loop-preserved
loop-preserved g c =
    let one = c.in_ok-deliver_first.ensures in (
      tt,
      tt,
      drains_more g.M.Memory.face g.M.Memory.knows c.args.self.now c.loop.self c.deliver_first.new.self
          c.loop.invariant.2 one.delivers one.room one.ended one.seat one.memory,
    )
