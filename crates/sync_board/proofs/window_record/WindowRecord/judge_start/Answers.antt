use Rattle.std.proofs.Common.{refl, sym, ◌∙◌}
use Rattle.rma_types.specs.declared.actions.Action.TheVariants.{Synchronises}
use Rattle.rma_types.specs.declared.actions.Synchronisation.TheVariants.{Starts}
use Rattle.call_rules.specs.Ranks.{members_of}
use Rattle.sync_board.proofs.Judged.{allowed, waits}
use Rattle.sync_board.proofs.WindowEntries.{group_below}
use Rattle.sync_board.proofs.window_record.WindowRecord.judge_start.Goals as goal

pub returns-then-has_posts : goal.returns-then-has_posts
returns-then-has_posts c = λ layout q win asserts asked is few right kept.
    allowed q (Synchronises win (Starts c.args.group.now asserts)) is refl
    (sym (c.has_posts.ensures q (members_of c.args.group.now) asked.rank kept.sides c.truths_of-truths.ensures
    (group_below q.ranks c.args.group.now few right)) ∙ c.if-has_posts.true)

pub returns-else-has_posts : goal.returns-else-has_posts
returns-else-has_posts c = λ layout q win asserts asked is few right kept.
    waits q (Synchronises win (Starts c.args.group.now asserts)) is refl
    (sym (c.has_posts.ensures q (members_of c.args.group.now) asked.rank kept.sides c.truths_of-truths.ensures
    (group_below q.ranks c.args.group.now few right)) ∙ c.if-has_posts.false)
