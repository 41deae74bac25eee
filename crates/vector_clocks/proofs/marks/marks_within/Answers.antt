-- The marks are in order, so the test parts them.
use Rattle.std.proofs.Common.{rules}
use Rattle.std.specs.Prelude.{nat_le}
use Rattle.std.proofs.lemmas.List.Sorted.{IsPartitionPoint-from_clause}
use Rattle.vector_clocks.specs.declared.marks.Mark.{Mark}
use Rattle.vector_clocks.proofs.Searches.{parted}
use Rattle.vector_clocks.proofs.marks.marks_within.Goals as goal

pub returns-clause-point : goal.returns-clause-point
returns-clause-point c = IsPartitionPoint-from_clause (λ (mark : Mark). nat_le mark.index c.args.index)
    c.args.marks.now _
    c.partition_point.ensures.partitioned (parted c.args.marks.now c.args.index c.requires) (λ a r q k. search rules)
