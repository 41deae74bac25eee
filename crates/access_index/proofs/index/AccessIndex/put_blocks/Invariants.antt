use Rattle.std.proofs.Common.{◌≡◌, ◌+◌, ◌*◌, ◌<◌, ℕ, List, length}
use Rattle.std.specs.Prelude.{Contains}
use Rattle.rma_types.specs.declared.accesses.Access.{Access}
use Rattle.access_index.specs.Indexes.{BelongsTo, IsSound, KeepsListed, block_group}
use Rattle.access_index.specs.Lists.{ordinals_in}
use Rattle.access_index.proofs.index.AccessIndex.put_blocks.Given as goal

-- the access is listed in each block so far
abbrev pub invariant-loop-block : goal.invariant-loop-block
invariant-loop-block l = record {
  sound : (rows : ℕ → List Access) → IsSound l.fn.self rows →
      ((block : ℕ) → l.access.lo < 4 * block + 4 → 4 * block < l.access.lo + l.access.len →
      BelongsTo rows (block_group block l.rank l.access) l.ordinal) →
      length (rows l.rank) ≡ l.ordinal + 1 → IsSound l.self rows;
  keeps : KeepsListed l.fn.self l.self;
  listed : (block : ℕ) → l.access.lo < 4 * block + 4 → block < l.block →
      Contains (ordinals_in l.self.ordinals (block_group block l.rank l.access)) l.ordinal;
  counts : l.self.counts ≡ l.fn.self.counts;
}
