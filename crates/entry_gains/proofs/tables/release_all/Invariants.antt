use Rattle.std.proofs.Common.{◌≡◌, cond, None}
use Rattle.entry_gains.specs.Tables.{held_at, is_reached_below}
use Rattle.entry_gains.specs.declared.tables.LockKey.{LockKey}
use Rattle.entry_gains.proofs.tables.release_all.Given as goal

abbrev pub invariant-loop-target : goal.invariant-loop-target
invariant-loop-target l = (other : LockKey) →
    held_at l.held other ≡ cond (is_reached_below l.target l.side l.reach other) None (held_at l.initial.held other)
