-- The visible points by the model of memory.
use Rattle.std.proofs.Common.{◌≡◌, Bool, List, ap, sym, ◌∙◌}
use Rattle.std.proofs.lemmas.Result.{IfOk-weaker}
use Rattle.rma_types.specs.declared.accesses.Access.{Access}
use Rattle.rma_types.specs.declared.accesses.Id.{Id}
use Rattle.order_rules.specs.Before.{IsOrder}
use Rattle.order_rules.specs.CallSteps.{IssuedAccess}
use Rattle.order_rules.specs.DonePoints.{timeline_of}
use Rattle.order_rules.specs.Roles.{role_of}
use Rattle.order_rules.specs.VisiblePoints.{separate_points, visible_points}
use Rattle.rank_records.specs.Kept.{IsKeptAccess}
use Rattle.every_point.proofs.points.visible_of.Goals as goal

pub returns-in-Separate : goal.returns-in-Separate
returns-in-Separate c =
    let script = c.args.recorded.now.script.now in
    let run = c.args.recorded.now.run.now in
    let access = c.args.access.now in
    let timeline = timeline_of script run in
    IfOk-weaker c.visible_separate.result
    (λ (points : List Id). (a : IssuedAccess) (before : Id → Id → Bool) → IsKeptAccess access a →
    IsOrder script run before → points ≡ separate_points before timeline a (role_of access.access.kind))
    (λ (points : List Id). (a : IssuedAccess) (before : Id → Id → Bool) → IsKeptAccess access a →
    IsOrder script run before → points ≡ visible_points c.args.model before timeline a)
    (λ points all a before kept order.
    all a before kept order
    ∙ ap (λ (one : Access). separate_points before timeline a (role_of one.kind)) kept.access
    ∙ sym (ap (λ model. visible_points model before timeline a) c.in-Separate.is))
    c.visible_separate.ensures
