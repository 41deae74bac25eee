-- The first range past the base tells whether any overlaps.
use Rattle.std.proofs.Common.{rules, ◌≡◌, ◌+◌, ◌∙◌, nat_lt}
use Rattle.window_regions.proofs.Searches.{overlap_at, overlap_past_all, no_range}
use Rattle.window_regions.proofs.sorted.do_any_overlap.Goals as goal

pub returns-then-at-ranges : goal.returns-then-at-ranges
returns-then-at-ranges c =
    let found = overlap_at c.args.ranges.now c.args.base c.args.bytes c.first_past-at.result c.index-ranges-at.result
    c.requires.ascending c.requires.some c.first_past-at.ensures c.if-at-ranges.true c.index-ranges-at.is in
    let same : nat_lt c.from.result (c.from-then-at-ranges.result + c.from-then-at-ranges-2.result)
    ≡ nat_lt c.index-ranges-at.result.range.base (c.args.base + c.args.bytes) = search rules in
    same ∙ found

pub returns-else-at-ranges : goal.returns-else-at-ranges
returns-else-at-ranges c =
    overlap_past_all c.args.ranges.now c.args.base c.args.bytes c.first_past-at.result no_range
    c.requires.ascending c.first_past-at.ensures c.if-at-ranges.false
