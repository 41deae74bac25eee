use Rattle.std.proofs.Common.{refl, arith}
use Rattle.lock_table.proofs.TargetLocks.{shared_beside, shared_free}
use Rattle.lock_table.proofs.targets.Target.may_grant.Goals as goal

pub returns-in-Shared-kind : goal.returns-in-Shared-kind
returns-in-Shared-kind c = λ window target. rw
    (c.in-Shared-kind.is, c.in-Shared.is, shared_beside window target c.in-Shared.holders) refl

pub returns-in-Exclusive-kind : goal.returns-in-Exclusive-kind
returns-in-Exclusive-kind c = λ window target. rw (c.in-Exclusive-kind.is, c.in-Shared.is)
    (shared_free window target c.in-Shared.holders (omega arith))
