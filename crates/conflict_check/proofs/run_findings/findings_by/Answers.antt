-- The points stand for all, so the findings are those of the run.
use Rattle.std.proofs.Common.{◌≡◌, List, [], ap, sym, subst, ◌∙◌}
use Rattle.std.specs.Prelude.{IfOk, map}
use Rattle.order_rules.specs.Findings.{findings, findings_after, judged_accesses}
use Rattle.vector_clocks.specs.Marks.{before_in}
use Rattle.first_points.specs.Alike.{judged_by, names_of}
use Rattle.first_points.specs.declared.accesses.JudgedPoints.{JudgedPoints}
use Rattle.conflict_check.specs.Listings.{IsAscending}
use Rattle.conflict_check.proofs.Alikes.{findings_alike}
use Rattle.conflict_check.proofs.Leasts.{ascending_alike}
use Rattle.conflict_check.proofs.run_findings.findings_by.Goals as goal

pub findings_with-requires-clause-ascending : goal.findings_with-requires-clause-ascending
findings_with-requires-clause-ascending c =
    let before = before_in c.args.clocks.now in
    let points = c.in_ok-points.points.items in
    let all = judged_accesses c.args.recorded.now.script.now c.args.recorded.now.run.now c.args.model before in
    subst (λ (l : List JudgedPoints). IsAscending (map judged_by l)) (sym c.as_slice-accesses.ensures.value)
    (ascending_alike before (names_of (map judged_by points)) (map judged_by points) all c.in_ok-points.ensures
    (c.findings_of_a_run.ensures.ascending c.args.recorded.now.script.now c.args.recorded.now.run.now c.args.model before))

pub returns : goal.returns
unfolding findings
returns c =
    let same = ap (λ (list : List JudgedPoints).
    findings_after c.args.model (before_in c.args.clocks.now) [] (map judged_by list))
    c.as_slice-accesses.ensures.value in
    let alike = findings_alike c.args.model (before_in c.args.clocks.now)
    (map judged_by c.in_ok-points.points.items)
    (judged_accesses c.args.recorded.now.script.now c.args.recorded.now.run.now c.args.model (before_in c.args.clocks.now))
    c.in_ok-points.ensures in
    subst (λ list. IfOk c.findings_with.result (λ found. found ≡ list)) (same ∙ alike) c.findings_with.ensures
