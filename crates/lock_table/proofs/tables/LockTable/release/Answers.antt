use Rattle.std.proofs.Common.{arith, set}
use Rattle.lock_table.specs.declared.targets.Target.TheVariants.{Shared}
use Rattle.lock_table.proofs.TableLocks.{released}
use Rattle.lock_table.proofs.Exclusion.{no_two_clash}
use Rattle.lock_table.proofs.tables.LockTable.release.Goals as goal

pub returns-clause-held : goal.returns-clause-held
returns-clause-held c = rw (← c.self.view_is)
    (released c.self.inside.window c.args.target c.args.rank c.self.inside.targets c.without.result (Shared 0)
    (omega arith)
    (c.without.ensures c.self.inside.window c.args.target))

pub returns-clause-exclusion : goal.returns-clause-exclusion
returns-clause-exclusion c = no_two_clash c.self.inside.window 0
    (set c.self.inside.targets c.args.target c.without.result)
