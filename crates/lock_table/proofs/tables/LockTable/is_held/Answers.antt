use Rattle.std.proofs.Common.{◌∙◌, sym, arith}
use Rattle.lock_table.specs.declared.targets.Target.TheVariants.{Shared}
use Rattle.lock_table.proofs.TableLocks.{held_at}
use Rattle.lock_table.proofs.tables.LockTable.is_held.Goals as goal

pub returns : goal.returns
returns c = rw (← c.self.view_is) (c.is_held.ensures c.self.inside.window c.args.target
    ∙ sym (held_at c.self.inside.window c.args.target c.self.inside.targets (Shared 0) (omega arith)))
