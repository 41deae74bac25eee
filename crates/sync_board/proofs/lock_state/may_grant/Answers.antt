-- Each target is free, or one is not.
use Rattle.std.proofs.Common.{◌≡◌, ◌-◌, ◌∙◌, ap, sym, not, arith, ⊎_elim}
use Rattle.std.specs.List.{list_any}
use Rattle.std.proofs.lemmas.Bool.{cases_lt, not-true, not-false}
use Rattle.board_rules.specs.Locks.{do_clash}
use Rattle.lock_table.specs.HeldLocks.{lock}
use Rattle.sync_board.proofs.LockTests.{none_asked, one_asked}
use Rattle.sync_board.proofs.lock_state.may_grant.Goals as goal

pub loop-target-preserved : goal.loop-target-preserved
loop-target-preserved c = λ rank at from below. ⊎_elim
    (λ before. c.loop-target.invariant rank at from before)
    (λ past.
    let here : at ≡ c.loop-target.target = omega arith in
    rw here (not-true (list_any (do_clash (lock c.args.table.now.window c.loop-target.target c.args.kind rank))
    c.args.table.now.held) (sym (c.may_grant.ensures rank) ∙ c.if-not-may_grant.false)))
    (cases_lt at c.loop-target.target)

pub returns-then-not-may_grant : goal.returns-then-not-may_grant
returns-then-not-may_grant c = λ rank.
    let table = c.args.table.now in
    let reach = c.args.reach in
    sym (ap not (one_asked (λ one. list_any (do_clash one) table.held) rank table.window c.args.kind reach.first
    (reach.end - reach.first) c.loop-target.target (omega arith) (omega arith)
    (not-false (list_any (do_clash (lock table.window c.loop-target.target c.args.kind rank)) table.held)
    (sym (c.may_grant.ensures rank) ∙ c.if-not-may_grant.true))))

pub returns : goal.returns
returns c = λ rank.
    let table = c.args.table.now in
    let reach = c.args.reach in
    sym (ap not (none_asked (λ one. list_any (do_clash one) table.held) rank table.window c.args.kind reach.first
    (reach.end - reach.first) (λ at low high. c.loop-target.invariant rank at low (omega arith))))
