use Rattle.std.proofs.Common.{◌∙◌, sym, ap, not, arith}
use Rattle.lock_table.specs.declared.targets.Target.TheVariants.{Shared}
use Rattle.lock_table.proofs.TableLocks.{clash_at}
use Rattle.lock_table.proofs.tables.LockTable.may_grant.Goals as goal

pub returns : goal.returns
returns c = λ rank. rw (← c.self.view_is) (c.may_grant.ensures c.self.inside.window c.args.target
    ∙ ap not (sym (clash_at c.self.inside.window c.args.target rank c.args.kind c.self.inside.targets (Shared 0)
    (omega arith))))
