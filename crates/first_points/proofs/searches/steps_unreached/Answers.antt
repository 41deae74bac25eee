-- What comes before a step comes before the later ones, so the test parts them.
use Rattle.std.proofs.Common.{rules}
use Rattle.std.specs.Prelude.{not}
use Rattle.std.proofs.lemmas.List.Sorted.{IsPartitionPoint-from_clause}
use Rattle.vector_clocks.specs.Marks.{before_in}
use Rattle.rank_records.specs.declared.kept.KeptStep.{KeptStep}
use Rattle.first_points.specs.Alike.{reaches}
use Rattle.first_points.proofs.Parted.{parted_unreached}
use Rattle.first_points.proofs.searches.steps_unreached.Goals as goal

pub returns-clause-point : goal.returns-clause-point
returns-clause-point c = IsPartitionPoint-from_clause
    (λ (k : KeptStep). not (reaches (before_in c.args.clocks.now) c.args.points.now k.id)) c.args.steps.now _
    c.partition_point.ensures.partitioned (parted_unreached c.args.clocks.now c.args.points.now c.args.steps.now
    c.requires)
    (λ a r q k. search rules)
