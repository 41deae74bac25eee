-- The steps are in order, so the test parts them.
use Rattle.std.proofs.Common.{rules}
use Rattle.std.specs.Prelude.{nat_le}
use Rattle.std.proofs.lemmas.List.Sorted.{IsPartitionPoint-from_clause}
use Rattle.rank_records.specs.declared.kept.KeptStep.{KeptStep}
use Rattle.first_points.proofs.Parted.{parted_within}
use Rattle.first_points.proofs.searches.steps_within.Goals as goal

pub returns-clause-point : goal.returns-clause-point
returns-clause-point c = IsPartitionPoint-from_clause (λ (k : KeptStep). nat_le k.id.index c.args.index)
    c.args.steps.now _
    c.partition_point.ensures.partitioned (parted_within c.args.steps.now c.args.index c.requires)
    (λ a r q k. search rules)
