-- The steps that pass are the done points.
use Rattle.std.proofs.Common.{◌≡◌, List, ap, ◌∙◌}
use Rattle.std.proofs.lemmas.Result.{IfOk-weaker}
use Rattle.rma_types.specs.declared.accesses.Id.{Id}
use Rattle.order_rules.specs.CallSteps.{IssuedAccess}
use Rattle.order_rules.specs.DonePoints.{done_points, timeline_of}
use Rattle.rank_records.specs.Kept.{IsKeptAccess}
use Rattle.every_point.specs.Points.{all_steps, is_done, names_passing}
use Rattle.every_point.proofs.PointsKept.{records_kept, done_are}
use Rattle.every_point.proofs.points.done_of.Goals as goal

pub returns : goal.returns
returns c =
    let script = c.args.recorded.now.script.now in
    let run = c.args.recorded.now.run.now in
    let access = c.args.access.now in
    let led = c.as_slice.ensures in
    let steps = c.as_slice-2.ensures.value ∙ c.in_ok-steps.ensures ∙ ap all_steps c.as_slice-records.ensures.value in
    IfOk-weaker c.done_among.result
    (λ (points : List Id). points
    ≡ names_passing (is_done script c.as_slice.result.now access) c.as_slice-2.result.now)
    (λ (points : List Id). (a : IssuedAccess) → IsKeptAccess access a → points ≡ done_points (timeline_of script run) a)
    (λ points same a kept.
    same ∙ (λ i. names_passing (is_done script (led i) access) (steps i))
    ∙ done_are script run c.args.recorded.now.ranks.items (records_kept c.args.recorded.now c.requires) access a kept
    c.in_ok-led.led c.in_ok-led.ensures)
    c.done_among.ensures
