use Rattle.lock_table.proofs.TableLocks.{no_locks}
use Rattle.lock_table.proofs.tables.LockTable.new.Goals as goal

pub returns-clause-held : goal.returns-clause-held
returns-clause-held c = no_locks c.args.window 0 16
