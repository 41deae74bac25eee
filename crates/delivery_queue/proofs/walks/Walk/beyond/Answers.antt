use Rattle.std.proofs.Common.{◌≡◌, ◌≤◌, ◌∙◌, sym, ap, arith}
use Rattle.rank_rules.specs.Pending.{way}
use Rattle.delivery_queue.proofs.LinksKept.{ends_before, same_way}
use Rattle.delivery_queue.proofs.walks.Walk.beyond.Goals as goal

pub returns-then-at-self-clause-way : goal.returns-then-at-self-clause-way
returns-then-at-self-clause-way c = λ pending walked.
    let walk = c.args.self.now in
    sym (ap (way pending) c.if-at-self.true ∙ same_way pending walk.start walk.gaps.items walk.end walked)

pub returns-then-at-self-clause-not_after : goal.returns-then-at-self-clause-not_after
returns-then-at-self-clause-not_after c = λ pending walked.
    let walk = c.args.self.now in
    let here : c.args.at ≡ walk.start = c.if-at-self.true in
    let before : walk.end ≤ walk.start = ends_before pending walk.start walk.gaps.items walk.end walked in
    omega arith
