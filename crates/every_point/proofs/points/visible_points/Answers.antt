-- The visible points of the access of the name.
use Rattle.std.proofs.Common.{◌≡◌, Bool, List, Some, None, ap, sym, subst, ◌∙◌}
use Rattle.std.specs.Prelude.{IfOk}
use Rattle.std.proofs.lemmas.Result.{IfOk-weaker}
use Rattle.rma_types.specs.declared.accesses.Id.{Id}
use Rattle.order_rules.specs.Before.{IsOrder}
use Rattle.order_rules.specs.CallSteps.{IssuedAccess}
use Rattle.order_rules.specs.DonePoints.{timeline_of}
use Rattle.order_rules.specs.VisiblePoints.{visible_points, visible_points_of}
use Rattle.rank_records.specs.Kept.{IsKeptAccess}
use Rattle.every_point.specs.Points.{access_named}
use Rattle.every_point.proofs.PointsKept.{none_named, points_named, records_kept}
use Rattle.every_point.proofs.points.visible_points.Goals as goal

pub returns-in-Some : goal.returns-in-Some
returns-in-Some c =
    let script = c.in_ok-recorded.recorded.script.now in
    let run = c.in_ok-recorded.recorded.run.now in
    let records = c.in_ok-recorded.recorded.ranks.items in
    let kept = records_kept c.in_ok-recorded.recorded c.in_ok-recorded.ensures.recorded in
    let named : access_named c.args.id records ≡ Some c.in-Some.access =
    ap (access_named c.args.id) (sym c.as_slice.ensures.value) ∙ sym c.access_named.ensures ∙ c.in-Some.is in
    subst (λ s. IfOk c.visible_of.result (λ (points : List Id). (before : Id → Id → Bool) →
    IsOrder s c.args.run.now before → points ≡ visible_points_of s c.args.run.now c.args.model before c.args.id))
    c.in_ok-recorded.ensures.script
    (subst (λ r. IfOk c.visible_of.result (λ (points : List Id). (before : Id → Id → Bool) →
    IsOrder c.in_ok-recorded.recorded.script.now r before →
    points ≡ visible_points_of c.in_ok-recorded.recorded.script.now r c.args.model before c.args.id))
    c.in_ok-recorded.ensures.run
    (IfOk-weaker c.visible_of.result
    (λ (points : List Id). (a : IssuedAccess) (before : Id → Id → Bool) → IsKeptAccess c.in-Some.access a →
    IsOrder script run before → points ≡ visible_points c.args.model before (timeline_of script run) a)
    (λ (points : List Id). (before : Id → Id → Bool) → IsOrder script run before →
    points ≡ visible_points_of script run c.args.model before c.args.id)
    (λ points all before order.
    points_named script run records kept c.args.id
    (visible_points c.args.model before (timeline_of script run)) c.in-Some.access named points
    (λ a access. all a before access order))
    c.visible_of.ensures))

pub returns : goal.returns
returns c before order =
    let script = c.in_ok-recorded.recorded.script.now in
    let run = c.in_ok-recorded.recorded.run.now in
    let records = c.in_ok-recorded.recorded.ranks.items in
    let kept = records_kept c.in_ok-recorded.recorded c.in_ok-recorded.ensures.recorded in
    let none : access_named c.args.id records ≡ None =
    ap (access_named c.args.id) (sym c.as_slice.ensures.value) ∙ sym c.access_named.ensures ∙ c.in-None.is in
    c.new.ensures
    ∙ none_named script run records kept c.args.id (visible_points c.args.model before (timeline_of script run)) none
    ∙ ap (λ s. visible_points_of s c.in_ok-recorded.recorded.run.now c.args.model before c.args.id)
    c.in_ok-recorded.ensures.script
    ∙ ap (λ r. visible_points_of c.args.script.now r c.args.model before c.args.id) c.in_ok-recorded.ensures.run
