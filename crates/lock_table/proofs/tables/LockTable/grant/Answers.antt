use Rattle.std.proofs.Common.{◌∙◌, sym, arith, get_or, set}
use Rattle.lock_table.specs.declared.targets.Target.TheVariants.{Shared}
use Rattle.lock_table.proofs.TargetLocks.{kind_alone}
use Rattle.lock_table.proofs.TableLocks.{clash_at, granted}
use Rattle.lock_table.proofs.Exclusion.{no_two_clash}
use Rattle.lock_table.proofs.tables.LockTable.grant.Goals as goal

pub with-requires-clause-free : goal.with-requires-clause-free
with-requires-clause-free c = λ window target.
    kind_alone c.args.kind window target c.self.inside.window c.args.target
    (get_or c.self.inside.targets c.args.target (Shared 0))
    ∙ (sym (clash_at c.self.inside.window c.args.target c.args.rank c.args.kind c.self.inside.targets (Shared 0)
    (omega arith))
    ∙ (rw (← c.self.view_is) at c.requires.free))

pub returns-clause-held : goal.returns-clause-held
returns-clause-held c = rw (← c.self.view_is)
    (granted c.self.inside.window c.args.target c.args.rank c.args.kind c.self.inside.targets c.with.result (Shared 0)
    (omega arith)
    (c.with.ensures c.self.inside.window c.args.target))

pub returns-clause-exclusion : goal.returns-clause-exclusion
returns-clause-exclusion c = no_two_clash c.self.inside.window 0
    (set c.self.inside.targets c.args.target c.with.result)
