use Rattle.std.proofs.Common.{◌≡◌, false, ap, refl, sym, ◌∙◌, subst}
use Rattle.std.proofs.lemmas.Result.{on_ok_weaker}
use Rattle.rma_types.specs.declared.accesses.Step.TheVariants.{One}
use Rattle.rma_types.specs.declared.actions.Action.TheVariants.{Synchronises}
use Rattle.rank_rules.specs.EpochTests.{is_wrong_group, names_wrong_rank}
use Rattle.board_rules.specs.Board.{may_synchronise_now}
use Rattle.sync_board.specs.Nothing.{brings_nothing}
use Rattle.sync_board.specs.Windows.{entered}
use Rattle.sync_board.proofs.HeldSteps.{lock_is, unlock_is}
use Rattle.sync_board.proofs.LockEntries.{with_locks}
use Rattle.sync_board.proofs.window_record.WindowRecord.enter_synchronisation.Goals as goal

pub returns-in-Posts-clause-ok : goal.returns-in-Posts-clause-ok
returns-in-Posts-clause-ok c =
    let names : is_wrong_group c.args.asked.now.ranks c.in-Posts.group ≡ false = subst
    (λ s. names_wrong_rank c.args.asked.now.ranks s ≡ false) c.in-Posts.is c.requires.names in
    on_ok_weaker c.post.result
    (λ more layout q win is action allowed kept. more layout q c.args.asked.now.number One win _ is.rank
    (action ∙ ap (Synchronises win) c.in-Posts.is) (rw is.ranks c.requires.asked.few) (rw is.ranks names) kept)
    c.post.ensures.ok

pub returns-in-Starts-clause-ok : goal.returns-in-Starts-clause-ok
returns-in-Starts-clause-ok c = on_ok_weaker c.start.result
    (λ more layout q win is action allowed kept. more layout q c.args.asked.now.number One win _ is.rank
    (action ∙ ap (Synchronises win) c.in-Starts.is) kept)
    c.start.ensures.ok

pub returns-in-Completes-clause-ok : goal.returns-in-Completes-clause-ok
returns-in-Completes-clause-ok c = on_ok_weaker c.complete.result
    (λ more layout q win is action allowed kept. more layout q c.args.asked.now.number One win is.rank
    (action ∙ ap (Synchronises win) c.in-Completes.is) kept)
    c.complete.ensures.ok

pub returns-in-Waits-clause-ok : goal.returns-in-Waits-clause-ok
returns-in-Waits-clause-ok c = on_ok_weaker c.wait.result
    (λ more layout q win is action allowed kept. more layout q c.args.asked.now.number One win _ is.rank
    (action ∙ ap (Synchronises win) c.in-Waits.is) kept)
    c.wait.ensures.ok

pub returns-in-Locks-clause-ok : goal.returns-in-Locks-clause-ok
returns-in-Locks-clause-ok c = λ layout q win is action allowed kept.
    let call = action ∙ ap (Synchronises win) c.in-Locks.is in
    let number = c.args.asked.now.number in
    with_locks layout q number One win _ c.args.self.now c.lock.new.self refl refl call kept
    (c.lock.ensures q (entered q number One) c.in-Locks.target (rw is.ranks c.reach_of-reach.ensures) is.window refl
    is.rank is.rank (lock_is q.call _ call) (sym (ap (may_synchronise_now q) c.in-Locks.is) ∙ allowed) kept.held)

pub returns-in-Unlocks-clause-ok : goal.returns-in-Unlocks-clause-ok
returns-in-Unlocks-clause-ok c = λ layout q win is action allowed kept.
    let call = action ∙ ap (Synchronises win) c.in-Unlocks.is in
    let number = c.args.asked.now.number in
    with_locks layout q number One win _ c.args.self.now c.unlock.new.self refl refl call kept
    (c.unlock.ensures q.ranks q.window q.entries (entered q number One) c.in-Unlocks.target
    (rw is.ranks c.reach_of-reach-in-Unlocks.ensures) is.window refl is.rank (unlock_is q.call _ call) kept.held)

pub returns-in-Flushes-clause-ok : goal.returns-in-Flushes-clause-ok
returns-in-Flushes-clause-ok c = λ layout q win is action allowed kept.
    c.pass.ensures layout q c.args.asked.now.number One
    (ap (brings_nothing One) (action ∙ ap (Synchronises win) c.in-Flushes.is)) kept

pub returns-in-Syncs-clause-ok : goal.returns-in-Syncs-clause-ok
returns-in-Syncs-clause-ok c = λ layout q win is action allowed kept.
    c.pass-in-Syncs.ensures layout q c.args.asked.now.number One
    (ap (brings_nothing One) (action ∙ ap (Synchronises win) c.in-Syncs.is)) kept
