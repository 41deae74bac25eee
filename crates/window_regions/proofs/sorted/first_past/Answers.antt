-- The ends rise, so the binary search finds the first that is past the address.
use Rattle.std.proofs.Common.{rules, nat_le}
use Rattle.std.proofs.lemmas.List.Sorted.{IsPartitionPoint-from_clause}
use Rattle.rank_rules.specs.Windows.{OwnRange}
use Rattle.window_regions.specs.Ascending.{end_of}
use Rattle.window_regions.proofs.Searches.{IsPartitionedBy-end, IsFirstPast-from_partition}
use Rattle.window_regions.proofs.sorted.first_past.Goals as goal

pub returns : goal.returns
returns c =
    IsFirstPast-from_partition c.args.ranges.now c.args.address c.partition_point.result c.partition_point.ensures.bound
    (IsPartitionPoint-from_clause (λ (own : OwnRange). nat_le (end_of own) c.args.address) c.args.ranges.now
    c.partition_point.result c.partition_point.ensures.partitioned
    (IsPartitionedBy-end c.args.ranges.now c.args.address c.requires)
    (λ a r f' called. search rules))
