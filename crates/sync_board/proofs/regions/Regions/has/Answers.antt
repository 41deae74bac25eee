use Rattle.std.proofs.Common.{◌∙◌, ap, sym, ◌||◌}
use Rattle.std.specs.List.{list_any}
use Rattle.rank_rules.specs.Ranges.{has_byte}
use Rattle.sync_board.specs.KeptRanges.{range_in}
use Rattle.sync_board.proofs.RangesKept.{has_either}
use Rattle.sync_board.proofs.regions.Regions.has.Goals as goal

pub returns-else-covers : goal.returns-else-covers
returns-else-covers c = λ ranges keeps.
    c.do_any_have.ensures
    ∙ (ap (list_any (λ span. has_byte c.args.address (range_in span))) c.deref.ensures.value
    ∙ (sym (ap (λ b. b || list_any (λ span. has_byte c.args.address (range_in span)) c.args.self.now.others.items)
    (sym c.covers.ensures ∙ c.if-covers.false))
    ∙ sym (has_either ranges c.args.self.now.apart c.args.self.now.others.items c.args.address keeps)))
