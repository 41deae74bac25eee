-- What is attached to the window is among what is attached.
use Rattle.std.proofs.Common.{◌∙◌, ◌&&◌, ◌==◌, List, ℕ, ap, map, filter}
use Rattle.std.specs.List.{list_any, list_all}
use Rattle.call_rules.specs.Pieces.{numbers_from}
use Rattle.rank_rules.specs.Ranges.{covers}
use Rattle.rank_rules.specs.Windows.{OwnRange}
use Rattle.window_regions.specs.Ascending.{is_attached_byte}
use Rattle.window_regions.proofs.RangeTests.{covers-attached}
use Rattle.window_regions.proofs.own.OwnRanges.covers.Goals as goal

pub returns : goal.returns
returns c =
    c.do_cover.ensures
    ∙ ap (λ (xs : List OwnRange). list_all (λ (address : ℕ). list_any (is_attached_byte c.args.win address) xs)
    (numbers_from c.args.lo c.args.len))
    c.as_slice.ensures.value
    ∙ covers-attached c.self.inside.ranges.items c.self.inside.attached.items c.args.win c.args.lo c.args.len
    c.self.invariant.of_attached
    ∙ ap (λ (xs : List OwnRange). covers (map (λ (own : OwnRange). own.range)
    (filter (λ (own : OwnRange). own.is_attached && own.win == c.args.win) xs)) c.args.lo c.args.len) c.self.view_is
