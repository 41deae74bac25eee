use Rattle.std.proofs.Common.{◌≡◌, ◌+◌, ◌/◌, drop, sum_by}
use Rattle.rma_types.specs.declared.scripts.MemoryPart.{MemoryPart}
use Rattle.rank_runners.proofs.starts.cells_of.Given as goal

-- those so far and those that are left are all
abbrev pub invariant-loop-part : goal.invariant-loop-part
invariant-loop-part l =
    l.cells + sum_by (λ (part : MemoryPart). part.bytes / 4) (drop l.part-index l.layout.parts)
    ≡ sum_by (λ (part : MemoryPart). part.bytes / 4) l.layout.parts
