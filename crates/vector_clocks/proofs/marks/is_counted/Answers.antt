-- The last mark within the index counts the item where any does.
use Rattle.std.proofs.Common.{ap, sym, ◌∙◌, [], nat_lt}
use Rattle.vector_clocks.proofs.Searches.{none_within, last_at}
use Rattle.vector_clocks.proofs.marks.is_counted.Goals as goal

pub returns-then-within-eq0 : goal.returns-then-within-eq0
returns-then-within-eq0 c =
    sym (none_within c.args.marks.now c.requires c.args.a c.args.index c.marks_within-within.result
    c.marks_within-within.ensures.point c.if-within-eq0.true)

pub returns : goal.returns
returns c =
    ap (nat_lt c.args.a.index) c.count_at.ensures
    ∙ sym (last_at c.args.marks.now c.requires c.args.a c.args.index c.marks_within-within.result
    c.marks_within-within.ensures.point
    c.marks_within-within.ensures.bound c.if-within-eq0.false (record { index = 0; counts = [] }))
