-- The same ranges leave all lists.
use Rattle.std.proofs.Common.{not, ◌==◌}
use Rattle.rank_rules.specs.Windows.{OwnRange}
use Rattle.window_regions.proofs.Indexes.{IsIndexed-filtered}
use Rattle.window_regions.proofs.own.OwnRanges.free.Goals as goal

pub invariant_of-self : goal.invariant_of-self
invariant_of-self c =
    IsIndexed-filtered (λ (own : OwnRange). not (own.win == c.args.win)) c.self.inside.ranges.items
    c.self.inside.created.items
    c.self.inside.attached.items c.free_from.new.ranges.items c.free_from-2.new.ranges.items
    c.free_from-3.new.ranges.items
    c.self.invariant c.free_from.ensures c.free_from-2.ensures c.free_from-3.ensures
