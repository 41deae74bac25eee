-- The range that begins at the base goes, and the others stay.
use Rattle.std.proofs.Common.{◌==◌, ◌∙◌, not, List, ap, sym, subst, map, filter}
use Rattle.std.specs.List.{AllByRecursion}
use Rattle.rank_rules.specs.Ranges.{Range}
use Rattle.rank_rules.specs.Windows.{OwnRange, is_attached_from}
use Rattle.window_regions.specs.Indexed.{IsAttachedAlone}
use Rattle.window_regions.proofs.Alone.{all_alone-filter, ranges-filter}
use Rattle.window_regions.proofs.attached.Attached.remove.Goals as goal

pub invariant_of-self : goal.invariant_of-self
invariant_of-self c =
    subst (λ (xs : List OwnRange). AllByRecursion IsAttachedAlone xs) (sym c.detach.ensures)
    (all_alone-filter (λ (own : OwnRange). not (is_attached_from 0 c.args.base own)) c.self.inside.ranges
    c.self.invariant)

pub returns : goal.returns
returns c =
    ap (λ (xs : List OwnRange). map (λ (own : OwnRange). own.range) xs) c.detach.ensures
    ∙ ranges-filter c.args.base c.self.inside.ranges c.self.invariant
    ∙ ap (λ (ranges : List Range). filter (λ (range : Range). not (range.base == c.args.base)) ranges) c.self.view_is
