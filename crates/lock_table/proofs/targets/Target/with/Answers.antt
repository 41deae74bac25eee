use Rattle.std.proofs.Common.{◌≡◌, false, ◌∙◌, ap, sym}
use Rattle.std.specs.List.{list_any}
use Rattle.std.proofs.lemmas.Bool.{true≢false}
use Rattle.rma_types.specs.declared.calls.Lock.TheVariants.{Shared as SharedLock, Exclusive as ExclusiveLock}
use Rattle.board_rules.specs.Locks.{Held, excludes}
use Rattle.lock_table.specs.declared.targets.Target.TheVariants.{Exclusive}
use Rattle.lock_table.specs.HeldLocks.{locks_at_target, lock}
use Rattle.lock_table.proofs.TargetLocks.{shared_with, exclusive_excludes, last_one}
use Rattle.lock_table.proofs.targets.Target.with.Goals as goal

pub unreachable-requires : goal.unreachable-requires
unreachable-requires c =
    let free : list_any (λ (one : Held). excludes c.args.kind one.kind) (locks_at_target 0 0 c.args.self) ≡ false =
    c.requires.free 0 0 in
    let both : list_any (λ (one : Held). excludes SharedLock one.kind)
    (locks_at_target 0 0 (Exclusive c.in-Shared-Exclusive.field-0-1)) ≡ false =
    sym (ap (λ kind. list_any (λ (one : Held). excludes kind one.kind)
    (locks_at_target 0 0 (Exclusive c.in-Shared-Exclusive.field-0-1))) c.in-Shared-Exclusive.is-0)
    ∙ (sym (ap (λ one. list_any (λ (one : Held). excludes c.args.kind one.kind) (locks_at_target 0 0 one))
    c.in-Shared-Exclusive.is-1) ∙ free) in
    true≢false both

pub returns-in-Exclusive-default : goal.returns-in-Exclusive-default
returns-in-Exclusive-default c = λ window target test.
    let free : list_any (λ (one : Held). excludes ExclusiveLock one.kind) (locks_at_target window target c.args.self) ≡
    false =
    sym (ap (λ kind. list_any (λ (one : Held). excludes kind one.kind) (locks_at_target window target c.args.self))
    c.in-Exclusive-default.is-0) ∙ c.requires.free window target in
    rw c.in-Exclusive-default.is-0
    (last_one test (locks_at_target window target c.args.self) (lock window target ExclusiveLock c.args.rank)
    (exclusive_excludes window target c.args.self free test))

pub returns-in-Shared-Shared : goal.returns-in-Shared-Shared
returns-in-Shared-Shared c = λ window target test.
    rw (c.in-Shared-Shared.is-0, c.in-Shared-Shared.is-1)
    (shared_with window target c.in-Shared-Shared.holders c.args.rank c.requires.rank test)
