-- The least partner is the first access that forms a forbidden pair.
use Rattle.std.proofs.Common.{◌≡◌, ◌<◌, ◌≤◌, length, Some, sym, ◌∙◌, arith}
use Rattle.std.specs.Prelude.{slice_index}
use Rattle.order_rules.specs.Rules.{forbidden_kind}
use Rattle.vector_clocks.specs.Marks.{before_in}
use Rattle.access_sweeps.specs.Places.{judged_at}
use Rattle.access_sweeps.proofs.Partners.{judged_read}
use Rattle.conflict_check.specs.Listings.{judged_of}
use Rattle.conflict_check.proofs.Leasts.{least_finding, no_finding, pair_is}
use Rattle.conflict_check.proofs.Readings.{long_judged}
use Rattle.conflict_check.proofs.run_findings.finding_at.Goals as goal

pub returns-then-partner-at : goal.returns-then-partner-at
returns-then-partner-at c =
    let s = c.args.s.now in
    let at = c.args.at in
    let xs = judged_of s in
    let long = long_judged s.accesses.now in
    let there = c.requires.there in
    let within : at < length xs = omega (arith, there, long) in
    let none : at ≤ slice_index c.args.best.now at = c.if-partner-at.true in
    sym (no_finding s.model (before_in s.clocks.now) (judged_at xs at) xs at
    (λ k low bound pair.
    let least : slice_index c.args.best.now at ≤ k = c.requires.least k at low within pair in
    omega (arith, least, none, low)))

pub returns-in-Some : goal.returns-in-Some
returns-in-Some c =
    let s = c.args.s.now in
    let at = c.args.at in
    let xs = judged_of s in
    let accesses = s.accesses.now in
    let before = before_in s.clocks.now in
    let p = slice_index c.args.best.now at in
    let long = long_judged accesses in
    let there = c.requires.there in
    let less : p < at = c.if-partner-at.false in
    let within : at < length xs = omega (arith, there, long) in
    let low : p < length xs = omega (arith, within, less) in
    let first = judged_read accesses p c.index-s-partner.result (omega (arith, there, less)) in
    let second = judged_read accesses at c.index-s-at.result there in
    let rule : forbidden_kind (judged_at xs p).access (judged_at xs p).id.rank (judged_at xs at).access
    (judged_at xs at).id.rank s.model ≡ Some c.in-Some.rule =
    sym (λ i. forbidden_kind (first i).access (first i).id.rank (second i).access (second i).id.rank s.model)
    ∙ sym c.forbidden_kind.ensures ∙ c.in-Some.is in
    (λ i. Some (record { first = (first i).id; second = (second i).id; rule = c.in-Some.rule }))
    ∙ sym (least_finding s.model before (judged_at xs at) xs at p c.in-Some.rule less low
    (pair_is s.model before (judged_at xs p) (judged_at xs at) c.in-Some.rule (c.requires.partners.pair at within less)
    rule)
    (λ k smaller pair.
    let least : p ≤ k = c.requires.least k at (omega (arith, smaller, less)) within pair in
    absurd (omega (arith, least, smaller))))
