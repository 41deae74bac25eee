-- The access that a call waits for gives way to none.
use Rattle.std.proofs.Common.{◌≡◌, ◌<◌, Some, length, sym, ◌∙◌, ap, subst}
use Rattle.rank_engine.proofs.Begun.{begin_waits, waits_first}
use Rattle.rank_engine.proofs.agent.Agent.begin.Goals as goal
use Rattle.rank_engine.specs.Moves.{IsMove}
use Rattle.rank_engine.specs.RankStates.{RankState}
use Rattle.step_runs.specs.Agents.{awaited_by}
use Rattle.step_runs.specs.DataSteps.{begin}

pub begin_delivery-requires-clause-first : goal.begin_delivery-requires-clause-first
begin_delivery-requires-clause-first g c =
    let same = c.self.view_is in
    waits_first c.args.self.now c.args.call.now c.in-Some-next_for.place
    (c.in-Some-next_for.ensures.next ∙ ap (λ (s : RankState). awaited_by s.agent c.args.call.now) same)
    (subst (λ (s : RankState). c.in-Some-next_for.place < length s.agent.pending) same
    c.in-Some-next_for.ensures.within)

pub returns-in-Some-next_for-clause-moved : goal.returns-in-Some-next_for-clause-moved
returns-in-Some-next_for-clause-moved g c =
    let same = c.self.view_is in
    let now : RankState = c.args.self.now in
    subst (λ (x : RankState). IsMove now x (begin now.stage now.agent c.args.call.now)) (sym c.begin_delivery.ensures)
    (begin_waits now c.args.call.now c.in-Some-next_for.place (sym c.if-must_draw.ensures)
    (sym c.in-None.ensures)
    (c.in-Some-next_for.ensures.next ∙ ap (λ (s : RankState). awaited_by s.agent c.args.call.now) same)
    (subst (λ (s : RankState). c.in-Some-next_for.place < length s.agent.pending) same
    c.in-Some-next_for.ensures.within))
