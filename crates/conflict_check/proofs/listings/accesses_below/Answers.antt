-- The accesses are in order, so the test parts them.
use Rattle.std.proofs.Common.{rules}
use Rattle.std.specs.Prelude.{nat_lt}
use Rattle.std.proofs.lemmas.List.Sorted.{IsPartitionPoint-from_clause}
use Rattle.first_points.specs.declared.accesses.JudgedPoints.{JudgedPoints}
use Rattle.conflict_check.proofs.Readings.{parted_by_rank}
use Rattle.conflict_check.proofs.listings.accesses_below.Goals as goal

pub returns : goal.returns
returns c = IsPartitionPoint-from_clause (λ (a : JudgedPoints). nat_lt a.id.rank c.args.rank)
    c.args.accesses.now _
    c.partition_point.ensures.partitioned (parted_by_rank c.args.accesses.now c.args.rank c.requires)
    (λ a r q k. search rules)
