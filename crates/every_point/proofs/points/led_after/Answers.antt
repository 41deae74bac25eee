-- Edges lead from the step that was found.
use Rattle.std.proofs.Common.{◌≡◌, List, ap, sym, ◌∙◌}
use Rattle.std.proofs.lemmas.Result.{IfOk-weaker}
use Rattle.rma_types.specs.declared.accesses.Id.{Id}
use Rattle.order_rules.specs.Before.{events_in}
use Rattle.every_point.specs.Edges.{is_among, led_among}
use Rattle.every_point.specs.Points.{leads_from, step_before}
use Rattle.every_point.proofs.Leads.{among_led}
use Rattle.every_point.proofs.points.led_after.Goals as goal

pub returns-in-Some : goal.returns-in-Some
returns-in-Some c =
    let script = c.args.recorded.now.script.now in
    let run = c.args.recorded.now.run.now in
    let access = c.args.access.now in
    let events = events_in script run in
    let from = c.in-Some.step.id in
    let is = sym c.step_before.ensures ∙ c.in-Some.is in
    IfOk-weaker c.led_by.result (λ (led : List Id). led ≡ led_among events from events)
    (λ (led : List Id). (id : Id) → is_among led id
    ≡ leads_from script run (step_before script c.args.recorded.now.ranks.items access.epoch access) id)
    (λ led same id.
    ap (λ (l : List Id). is_among l id) same ∙ among_led events from id
    ∙ sym (ap (λ o. leads_from script run o id) is))
    c.led_by.ensures
