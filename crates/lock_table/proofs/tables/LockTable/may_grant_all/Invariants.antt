use Rattle.std.proofs.Common.{◌≡◌, ℕ, false, take}
use Rattle.std.specs.List.{list_any}
use Rattle.board_rules.specs.Locks.{Held, is_exclusive}
use Rattle.lock_table.specs.HeldLocks.{locks_from}
use Rattle.lock_table.proofs.tables.LockTable.may_grant_all.Given as goal

abbrev pub invariant-loop-locks : goal.invariant-loop-locks
invariant-loop-locks l = (window : ℕ) → list_any (λ (one : Held). is_exclusive one.kind)
    (locks_from window 0 (take l.locks-index l.locks-items)) ≡ false
