use Rattle.std.proofs.Common.{◌∙◌, sym, arith}
use Rattle.board_rules.specs.Posts.{last_posted}
use Rattle.sync_board.specs.Sides.{done_at, has_complete_of, IsGroup}
use Rattle.sync_board.proofs.Groups.{all_told, one_told}
use Rattle.sync_board.proofs.Matched.{is_wait, last_is}
use Rattle.sync_board.proofs.matches.has_completes.Goals as goal

pub returns-then-not-has_complete : goal.returns-then-not-has_complete
returns-then-not-has_complete c = λ q asker kept ranks.
    let group : IsGroup c.last_post-group.result (last_posted q) =
    rw (last_is q c.args.rank asker) (c.last_post-group.ensures (done_at q) kept) in
    sym (one_told (has_complete_of (done_at q) c.args.rank) c.last_post-group.result (last_posted q)
    c.loop-member.member group c.loop-member-test.true c.if-group-member.true
    (sym (c.has_complete.ensures (done_at q) kept) ∙ c.if-not-has_complete.true))
    ∙ is_wait q c.args.rank asker

pub returns : goal.returns
returns c = λ q asker kept ranks.
    let group : IsGroup c.last_post-group.result (last_posted q) =
    rw (last_is q c.args.rank asker) (c.last_post-group.ensures (done_at q) kept) in
    sym (all_told (has_complete_of (done_at q) c.args.rank) c.last_post-group.result (last_posted q) group ranks
    (λ k within told. c.loop-member.invariant (done_at q) k kept (omega arith) told))
    ∙ is_wait q c.args.rank asker
