-- The visible points by the role of the access.
use Rattle.std.proofs.Common.{◌≡◌, Bool, List, ap, sym, ◌∙◌}
use Rattle.std.specs.List.{filter}
use Rattle.std.proofs.lemmas.Result.{IfOk-weaker}
use Rattle.rma_types.specs.declared.accesses.Id.{Id}
use Rattle.order_rules.specs.Before.{IsOrder}
use Rattle.order_rules.specs.CallSteps.{IssuedAccess, steps_in}
use Rattle.order_rules.specs.DonePoints.{done_points, ids_of, timeline_of}
use Rattle.order_rules.specs.Roles.{RmaUpdate, Store, role_of}
use Rattle.order_rules.specs.VisiblePoints.{is_taken_in_at, separate_points}
use Rattle.rma_rules.specs.Same.{role_by}
use Rattle.rank_records.specs.Kept.{IsKeptAccess}
use Rattle.first_points.specs.declared.searches.Sought.TheVariants.{GivingOut}
use Rattle.every_point.specs.Points.{all_steps, is_later_sought, names_passing}
use Rattle.every_point.proofs.PointsKept.{records_kept, given_out_are}
use Rattle.every_point.proofs.points.visible_separate.Goals as goal

pub returns-in-Update : goal.returns-in-Update
returns-in-Update c =
    let script = c.args.recorded.now.script.now in
    let run = c.args.recorded.now.run.now in
    let access = c.args.access.now in
    let role : role_of access.access.kind ≡ RmaUpdate = sym c.part_of.ensures ∙ ap role_by c.in-Update.is in
    IfOk-weaker c.visible_to_owner.result
    (λ (points : List Id). (a : IssuedAccess) (before : Id → Id → Bool) → IsKeptAccess access a →
    IsOrder script run before →
    points ≡ ids_of (filter (is_taken_in_at before a (done_points (timeline_of script run) a)) (steps_in script run)))
    (λ (points : List Id). (a : IssuedAccess) (before : Id → Id → Bool) → IsKeptAccess access a →
    IsOrder script run before →
    points ≡ separate_points before (timeline_of script run) a (role_of access.access.kind))
    (λ points all a before kept order.
    all a before kept order ∙ sym (ap (separate_points before (timeline_of script run) a) role))
    c.visible_to_owner.ensures

pub returns-in-Store : goal.returns-in-Store
returns-in-Store c =
    let script = c.args.recorded.now.script.now in
    let run = c.args.recorded.now.run.now in
    let access = c.args.access.now in
    let role : role_of access.access.kind ≡ Store = sym c.part_of.ensures ∙ ap role_by c.in-Store.is in
    IfOk-weaker c.visible_to_others.result
    (λ (points : List Id). points ≡ names_passing (is_later_sought script GivingOut access)
    (all_steps c.args.recorded.now.ranks.items))
    (λ (points : List Id). (a : IssuedAccess) (before : Id → Id → Bool) → IsKeptAccess access a →
    IsOrder script run before →
    points ≡ separate_points before (timeline_of script run) a (role_of access.access.kind))
    (λ points same a before kept order.
    same ∙ given_out_are script run c.args.recorded.now.ranks.items (records_kept c.args.recorded.now c.requires) access a kept
    ∙ sym (ap (separate_points before (timeline_of script run) a) role))
    c.visible_to_others.ensures
