use Rattle.sync_board.specs.Sides.{IsRaised}
use Rattle.sync_board.proofs.SideSteps.{counts_more, groups_more}
use Rattle.sync_board.proofs.sides.Side.start.Goals as goal

pub returns-clause-ok : goal.returns-clause-ok
returns-clause-ok c = λ d members group kept.
    let more : IsRaised c.args.self.now.started_to c.args.group.now c.in_ok-started_to.started_to = rw
    c.in_ok-started_to.ensures.ok_part at c.raised.ensures in
    let completed = rw c.in_ok-completed_to.ensures.ok_part at c.completed_with_start.ensures in
    record {
      posts = kept.posts;
      waits = kept.waits;
      completes = kept.completes;
      posted_to = kept.posted_to;
      started_to = counts_more c.args.self.now.started_to c.in_ok-started_to.started_to c.args.group.now d.starts
          members kept.started_to group more;
      completed_to = completed d members group kept;
      last_post = kept.last_post;
      starts = rw c.in-Ok.ensures.items
          (groups_more c.args.self.now.starts.items d.starts c.args.group.now members kept.starts group);
    }
