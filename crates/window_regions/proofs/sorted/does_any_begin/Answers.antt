-- No other range than the first past the base begins there.
use Rattle.std.proofs.Common.{◌∙◌}
use Rattle.window_regions.proofs.Searches.{begin_at, begin_past_all, no_range}
use Rattle.window_regions.proofs.sorted.does_any_begin.Goals as goal

pub returns-then-at-ranges : goal.returns-then-at-ranges
returns-then-at-ranges c =
    c.is_attached_at.ensures
    ∙ begin_at c.args.ranges.now c.args.win c.args.base c.first_past-at.result c.index-ranges-at.result
    c.requires c.first_past-at.ensures c.if-at-ranges.true c.index-ranges-at.is

pub returns-else-at-ranges : goal.returns-else-at-ranges
returns-else-at-ranges c =
    begin_past_all c.args.ranges.now c.args.win c.args.base c.first_past-at.result no_range
    c.requires c.first_past-at.ensures c.if-at-ranges.false
