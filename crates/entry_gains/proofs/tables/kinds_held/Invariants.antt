use Rattle.std.proofs.Common.{◌≡◌, ◌<◌, ℕ, cond, length, None}
use Rattle.std.specs.Prelude.{slice_index_or}
use Rattle.entry_gains.specs.Tables.{held_at, is_within, lock_key}
use Rattle.entry_gains.proofs.tables.kinds_held.Given as goal

abbrev pub invariant-loop-target : goal.invariant-loop-target
invariant-loop-target l = record {
  done : (k : ℕ) → k < l.target → slice_index_or l.kinds k None
      ≡ cond (is_within l.reach k) (held_at l.held (lock_key l.side k)) None;
  long : length l.kinds ≡ 16;
}
