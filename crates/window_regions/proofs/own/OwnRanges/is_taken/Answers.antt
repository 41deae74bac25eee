-- A byte is taken in one of the two lists for searches, or not at all.
use Rattle.std.proofs.Common.{arith, ◌∙◌, List, ap, map}
use Rattle.std.specs.List.{list_any}
use Rattle.rank_rules.specs.Ranges.{do_overlap, is_taken}
use Rattle.rank_rules.specs.Windows.{OwnRange}
use Rattle.window_regions.proofs.Indexes.{taken_by_created, taken_by_attached, not_taken-empty}
use Rattle.window_regions.proofs.own.OwnRanges.is_taken.Goals as goal

pub returns-then-bytes-eq0 : goal.returns-then-bytes-eq0
returns-then-bytes-eq0 c = not_taken-empty _ c.args.base c.args.bytes (omega arith)

pub returns-then-does_any_overlap : goal.returns-then-does_any_overlap
returns-then-does_any_overlap c =
    let overlaps = λ (own : OwnRange). do_overlap (record { base = c.args.base; bytes = c.args.bytes }) own.range in
    taken_by_created c.self.inside.ranges.items c.self.inside.created.items c.self.inside.attached.items c.args.base
    c.args.bytes
    c.does_any_overlap.result c.self.invariant
    (c.does_any_overlap.ensures ∙ ap (list_any overlaps) c.as_slice.ensures.value) c.if-does_any_overlap.true
    ∙ ap (λ (xs : List OwnRange). is_taken (map (λ (own : OwnRange). own.range) xs)
    (record { base = c.args.base; bytes = c.args.bytes }))
    c.self.view_is

pub returns-else-does_any_overlap : goal.returns-else-does_any_overlap
returns-else-does_any_overlap c =
    let overlaps = λ (own : OwnRange). do_overlap (record { base = c.args.base; bytes = c.args.bytes }) own.range in
    taken_by_attached c.self.inside.ranges.items c.self.inside.created.items c.self.inside.attached.items c.args.base
    c.args.bytes
    c.does_any_overlap.result c.do_any_overlap.result c.self.invariant
    (c.does_any_overlap.ensures ∙ ap (list_any overlaps) c.as_slice.ensures.value) c.if-does_any_overlap.false
    (c.do_any_overlap.ensures ∙ ap (list_any overlaps) c.as_slice-else-does_any_overlap.ensures.value)
    ∙ ap (λ (xs : List OwnRange). is_taken (map (λ (own : OwnRange). own.range) xs)
    (record { base = c.args.base; bytes = c.args.bytes }))
    c.self.view_is
