-- The steps that are kept of each rank stand in the order of its log.
use Rattle.std.proofs.Common.{List, ap, sym, subst, ◌∙◌}
use Rattle.rank_records.specs.declared.kept.RankRecord.{RankRecord}
use Rattle.first_points.specs.KeptPoints.{AllAscending, first_after}
use Rattle.every_point.proofs.PointsKept.{records_kept}
use Rattle.every_point.proofs.points.first_later.Goals as goal

pub first_after-requires : goal.first_after-requires
first_after-requires c = subst (λ (records : List RankRecord). AllAscending records)
    (sym c.as_slice-records.ensures.value) (records_kept c.args.recorded.now c.requires).ascending

pub returns : goal.returns
returns c = c.first_after.ensures
    ∙ ap (λ (records : List RankRecord). first_after c.args.recorded.now.script.now records c.args.sought
    c.args.access.now) c.as_slice-records.ensures.value
