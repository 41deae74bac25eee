-- What is attached to the one window is all that there is.
use Rattle.std.proofs.Common.{◌∙◌, List, ap, map}
use Rattle.rank_rules.specs.Ranges.{Range, covers}
use Rattle.rank_rules.specs.Windows.{OwnRange}
use Rattle.window_regions.proofs.Alone.{filter-alone}
use Rattle.window_regions.proofs.attached.Attached.covers.Goals as goal

pub returns : goal.returns
returns c =
    c.covers.ensures
    ∙ ap (λ (xs : List OwnRange). covers (map (λ (own : OwnRange). own.range) xs) c.args.lo c.args.len)
    (filter-alone c.self.inside.ranges c.self.invariant)
    ∙ ap (λ (ranges : List Range). covers ranges c.args.lo c.args.len) c.self.view_is
