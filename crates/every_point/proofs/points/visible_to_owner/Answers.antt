-- The steps that pass are those at which the update is visible to the owner.
use Rattle.std.proofs.Common.{◌≡◌, Bool, List, ap, ◌∙◌}
use Rattle.std.specs.List.{filter}
use Rattle.std.proofs.lemmas.Result.{IfOk-weaker}
use Rattle.rma_types.specs.declared.accesses.Id.{Id}
use Rattle.order_rules.specs.Before.{IsOrder}
use Rattle.order_rules.specs.CallSteps.{IssuedAccess, steps_in}
use Rattle.order_rules.specs.DonePoints.{done_points, ids_of, timeline_of}
use Rattle.order_rules.specs.VisiblePoints.{is_taken_in_at}
use Rattle.vector_clocks.specs.Marks.{before_in}
use Rattle.rank_records.specs.Kept.{IsKeptAccess}
use Rattle.every_point.specs.Points.{all_steps, is_taken_in, names_passing}
use Rattle.every_point.proofs.PointsKept.{records_kept, taken_are}
use Rattle.every_point.proofs.points.visible_to_owner.Goals as goal

pub returns : goal.returns
returns c =
    let script = c.args.recorded.now.script.now in
    let run = c.args.recorded.now.run.now in
    let access = c.args.access.now in
    let clocks = before_in c.in_ok-clocks.clocks in
    let done = c.as_slice.ensures in
    let steps = c.as_slice-2.ensures.value ∙ c.in_ok-steps.ensures ∙ ap all_steps c.as_slice-records.ensures.value in
    IfOk-weaker c.taken_in_among.result
    (λ (points : List Id). points
    ≡ names_passing (is_taken_in script clocks c.as_slice.result.now access) c.as_slice-2.result.now)
    (λ (points : List Id). (a : IssuedAccess) (before : Id → Id → Bool) → IsKeptAccess access a →
    IsOrder script run before →
    points ≡ ids_of (filter (is_taken_in_at before a (done_points (timeline_of script run) a)) (steps_in script run)))
    (λ points same a before kept order.
    same ∙ (λ i. names_passing (is_taken_in script clocks (done i) access) (steps i))
    ∙ taken_are script run c.args.recorded.now.ranks.items (records_kept c.args.recorded.now c.requires) access a kept clocks before
    c.in_ok-clocks.ensures.order order c.in_ok-done.done (c.in_ok-done.ensures a kept))
    c.taken_in_among.ensures
