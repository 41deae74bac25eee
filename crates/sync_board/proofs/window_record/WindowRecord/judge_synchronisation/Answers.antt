use Rattle.std.proofs.Common.{◌≡◌, false, ap, subst, ◌∙◌}
use Rattle.rma_types.specs.declared.actions.Action.TheVariants.{Synchronises}
use Rattle.rank_rules.specs.EpochTests.{is_wrong_group, names_wrong_rank}
use Rattle.sync_board.proofs.window_record.WindowRecord.judge_synchronisation.Goals as goal

pub returns-in-Posts : goal.returns-in-Posts
returns-in-Posts c = λ layout q win is action kept. c.judge_post.ensures layout q win _ _ is
    (action ∙ ap (Synchronises win) c.in-Posts.is) kept

pub returns-in-Starts : goal.returns-in-Starts
returns-in-Starts c = λ layout q win is action kept.
    let names : is_wrong_group c.args.asked.now.ranks c.in-Starts.group ≡ false = subst
    (λ s. names_wrong_rank c.args.asked.now.ranks s ≡ false) c.in-Starts.is c.requires.names in
    c.judge_start.ensures layout q win _ is (action ∙ ap (Synchronises win) c.in-Starts.is)
    (rw is.ranks c.requires.asked.few) (rw is.ranks names) kept

pub returns-in-Waits : goal.returns-in-Waits
returns-in-Waits c = λ layout q win is action kept. c.judge_wait.ensures layout q win _ is
    (action ∙ ap (Synchronises win) c.in-Waits.is) kept

pub returns-in-Locks : goal.returns-in-Locks
returns-in-Locks c = λ layout q win is action kept. c.judge_lock.ensures layout q win c.in-Locks.target _
    (action ∙ ap (Synchronises win) c.in-Locks.is) (rw is.ranks c.reach_of.ensures) kept
