use Rattle.std.proofs.Common.{◌∙◌, sym, arith}
use Rattle.lock_table.specs.declared.targets.Target.TheVariants.{Shared}
use Rattle.lock_table.proofs.TableLocks.{held_by_at}
use Rattle.lock_table.proofs.tables.LockTable.holds.Goals as goal

pub returns : goal.returns
returns c = rw (← c.self.view_is) (c.is_held_by.ensures c.self.inside.window c.args.target
    ∙ sym (held_by_at c.self.inside.window c.args.target c.args.rank c.self.inside.targets (Shared 0) (omega arith)))
