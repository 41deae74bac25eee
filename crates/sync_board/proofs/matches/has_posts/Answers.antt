use Rattle.std.proofs.Common.{◌≡◌, ◌∙◌, ap, sym, get_or, false, arith, ⊎_elim}
use Rattle.std.proofs.lemmas.Bool.{cases_lt, true≢false}
use Rattle.sync_board.specs.Sides.{done_at, has_post_of}
use Rattle.sync_board.proofs.Groups.{all_told, one_told}
use Rattle.sync_board.proofs.Matched.{is_start}
use Rattle.sync_board.proofs.matches.has_posts.Goals as goal
use Rattle.sync_board.proofs.matches.has_posts.Goals.{else-group-member-via-then-group-member+else-not-has_post}
use Rattle.sync_board.proofs.matches.has_posts.Goals.{else-group-member-via-else-group-member}

pub returns-then-not-has_post : goal.returns-then-not-has_post
returns-then-not-has_post c = λ q members asker kept group ranks.
    sym (one_told (has_post_of (done_at q) c.args.rank) c.args.group.now members c.loop-member.member group
    c.loop-member-test.true c.if-group-member.true
    (sym (c.has_post.ensures (done_at q) kept) ∙ c.if-not-has_post.true))
    ∙ is_start q c.args.rank members asker

pub loop-member-preserved : goal.loop-member-preserved
loop-member-preserved c = λ done_of k kept below told. ⊎_elim
    (λ before. c.loop-member.invariant done_of k kept before told)
    (λ past.
    let here : k ≡ c.loop-member.member = omega arith in
    elim c.else-group-member.branch [
      | else-group-member-via-then-group-member+else-not-has_post w ↦ ap (has_post_of done_of c.args.rank) here
          ∙ (sym (w.has_post.ensures done_of kept) ∙ w.if-not-has_post.false)
      | else-group-member-via-else-group-member w ↦
          absurd (true≢false (sym told ∙ (ap (λ x. get_or c.args.group.now x false) here ∙ w.if-group-member.false)))
    ])
    (cases_lt k c.loop-member.member)

pub returns : goal.returns
returns c = λ q members asker kept group ranks.
    sym (all_told (has_post_of (done_at q) c.args.rank) c.args.group.now members group ranks
    (λ k within told. c.loop-member.invariant (done_at q) k kept (omega arith) told))
    ∙ is_start q c.args.rank members asker
