use Rattle.std.proofs.Common.{◌≡◌, ◌≤◌, ◌+◌, cond, Some}
use Rattle.std.specs.HashMap.{spare}
use Rattle.entry_gains.specs.Tables.{held_at, is_reached_below, stronger}
use Rattle.entry_gains.specs.declared.tables.LockKey.{LockKey}
use Rattle.entry_gains.proofs.tables.hold_all.Given as goal

abbrev pub invariant-loop-target : goal.invariant-loop-target
invariant-loop-target l = record {
  kinds : (other : LockKey) → held_at l.held other
      ≡ cond (is_reached_below l.target l.side l.reach other) (Some (stronger (held_at l.initial.held other) l.kind))
      (held_at l.initial.held other);
  room : 16 ≤ spare l.held + l.target;
}
