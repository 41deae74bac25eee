-- The range comes to its place among those that are attached.
use Rattle.std.proofs.Common.{subst, List, rules}
use Rattle.rank_rules.specs.Windows.{OwnRange}
use Rattle.window_regions.specs.Ascending.{IsFirstPast}
use Rattle.window_regions.proofs.Inserted.{IsIndexed-attached_as}
use Rattle.window_regions.proofs.own.OwnRanges.attach.Goals as goal

pub invariant_of-self-in-Ok : goal.invariant_of-self-in-Ok
invariant_of-self-in-Ok c =
    IsIndexed-attached_as c.self.inside.ranges.items c.self.inside.created.items c.self.inside.attached.items
    c.push_reserved.new.self.items c.insert.new.self.items
    c.args.win c.args.base c.args.bytes c.first_past-at.result c.self.invariant c.requires.some
    (search rules)
    (subst (λ (xs : List OwnRange). IsFirstPast xs c.args.base c.first_past-at.result) c.as_slice.ensures.value
    c.first_past-at.ensures)
    (search rules) (search rules)
