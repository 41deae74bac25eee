-- The same ranges leave all lists.
use Rattle.std.proofs.Common.{not}
use Rattle.rank_rules.specs.Windows.{OwnRange, is_attached_from}
use Rattle.window_regions.proofs.Indexes.{IsIndexed-filtered}
use Rattle.window_regions.proofs.own.OwnRanges.detach.Goals as goal

pub invariant_of-self : goal.invariant_of-self
invariant_of-self c =
    IsIndexed-filtered (λ (own : OwnRange). not (is_attached_from c.args.win c.args.base own))
    c.self.inside.ranges.items c.self.inside.created.items
    c.self.inside.attached.items c.detach_from.new.ranges.items c.detach_from-2.new.ranges.items
    c.detach_from-3.new.ranges.items
    c.self.invariant c.detach_from.ensures c.detach_from-2.ensures c.detach_from-3.ensures
