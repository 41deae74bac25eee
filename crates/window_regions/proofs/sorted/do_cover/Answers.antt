-- The bytes are attached one range after the other, until the end or the first gap.
use Rattle.std.proofs.Common.{arith, ◌≡◌, ◌+◌, ℕ, ◌∙◌, ap, subst, sym, false, true, nat_le}
use Rattle.rank_rules.specs.Windows.{OwnRange}
use Rattle.window_regions.specs.Ascending.{end_of, is_attached_byte}
use Rattle.window_regions.proofs.Searches.{IsCoveredUpTo, IsCoveredUpTo-more, covered_whole, gap_found, covered_at_end}
use Rattle.window_regions.proofs.sorted.do_cover.Goals as goal

pub returns-then-end-address : goal.returns-then-end-address
returns-then-end-address c =
    covered_whole c.args.ranges.now c.args.win c.args.lo c.args.len c.loop-at.at c.loop-at.address c.loop-at.invariant
    (omega arith)

pub returns-then-not-has_attached_byte : goal.returns-then-not-has_attached_byte
returns-then-not-has_attached_byte c =
    let own = c.index-ranges-at.result in
    let fails : is_attached_byte c.args.win c.loop-at.address own ≡ false =
    sym c.has_attached_byte.ensures ∙ c.if-not-has_attached_byte.true in
    gap_found c.args.ranges.now c.args.win c.args.lo c.args.len c.loop-at.at c.loop-at.address own c.requires
    c.loop-at.invariant (omega arith)
    (λ lt. subst (λ (o : OwnRange). is_attached_byte c.args.win c.loop-at.address o ≡ false) c.index-ranges-at.is fails)

pub loop-at-preserved : goal.loop-at-preserved
loop-at-preserved c =
    let own = c.index-ranges-at.result in
    let has : is_attached_byte c.args.win c.loop-at.address own ≡ true =
    sym c.has_attached_byte.ensures ∙ c.if-not-has_attached_byte.false in
    let more = IsCoveredUpTo-more c.args.ranges.now c.args.win c.args.lo c.loop-at.at c.loop-at.address own c.requires
    c.loop-at.invariant c.loop-at-test.true c.index-ranges-at.is has in
    let ends : c.from-address-in-loop-at.result ≡ end_of own = c.from-address-in-loop-at.ensures ∙ c.end.ensures in
    subst (λ (address : ℕ). IsCoveredUpTo c.args.ranges.now c.args.win c.args.lo (c.loop-at.at + 1) address)
    (sym ends) more

pub returns : goal.returns
returns c =
    let same : c.from.result + c.from-2.result ≡ c.args.lo + c.args.len = omega arith in
    ap (λ (end : ℕ). nat_le end c.loop-at.address) same
    ∙ covered_at_end c.args.ranges.now c.args.win c.args.lo c.args.len c.loop-at.at c.loop-at.address c.requires
    c.loop-at.invariant c.loop-at-test.false
