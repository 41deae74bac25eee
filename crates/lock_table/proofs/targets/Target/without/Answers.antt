use Rattle.lock_table.proofs.TargetLocks.{shared_without, exclusive_without_same}
use Rattle.lock_table.proofs.targets.Target.without.Goals as goal

pub returns-in-Shared : goal.returns-in-Shared
returns-in-Shared c = λ window target test. rw c.in-Shared.is
    (shared_without window target c.in-Shared.holders c.args.rank c.requires test)

pub returns-then-holder-rank : goal.returns-then-holder-rank
returns-then-holder-rank c = λ window target test.
    rw c.in-Exclusive.is (exclusive_without_same window target c.args.rank c.in-Exclusive.holder c.if-holder-rank.true
    test)
