use Rattle.std.proofs.Common.{◌≡◌, ◌∙◌, ap, sym, not, []}
use Rattle.board_rules.specs.Locks.{held_here, locks_asked}
use Rattle.sync_board.specs.KeptLocks.{clashes}
use Rattle.sync_board.proofs.LocksKept.{asks_free, none_clash}
use Rattle.sync_board.proofs.lock_state.LockState.may_lock.Goals as goal

pub returns-in-Some : goal.returns-in-Some
returns-in-Some c = λ q target is kept.
    c.may_grant.ensures q.rank ∙ ap not (asks_free q c.args.kind target c.args.reach c.in-Some.table is
    (rw c.in-Some.is at kept))

pub returns-in-None : goal.returns-in-None
returns-in-None c = λ q target is kept.
    let none : held_here q ≡ [] = rw c.in-None.is at kept in
    sym (ap (λ held. not (clashes held (locks_asked q c.args.kind target))) none
    ∙ none_clash (locks_asked q c.args.kind target))
