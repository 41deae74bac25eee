-- An odd draw names a pending access.
use Rattle.std.proofs.Common.{◌≡◌, ℕ, ◌<◌, ◌≤◌, ◌/◌, ◌%◌, Some, true, length, refl, sym, ◌∙◌, ap, subst}
use Rattle.step_runs.specs.Agents.{must_draw}
use Rattle.step_runs.specs.DataSteps.{draw}
use Rattle.rank_rules.specs.Pending.{way}
use Rattle.rank_engine.proofs.MovesMade.{drawn_first, draws_one, some_waits}
use Rattle.rank_engine.proofs.agent.Agent.draw.Goals as goal
use Rattle.rank_engine.specs.Moves.{IsFirst, IsMove}
use Rattle.rank_engine.specs.RankStates.{RankState, state_of}

pub begin_delivery-requires-clause-first : goal.begin_delivery-requires-clause-first
begin_delivery-requires-clause-first g c =
    let at : RankState = state_of c.self.inside.script.now c.self.inside.layout.now c.self.inside.delay
    c.self.inside.rank (g.L.Keep.kept c.self.inside.log) c.self.inside.windows c.self.inside.epochs
    c.self.inside.queue c.self.inside.at c.self.inside.entered c.self.inside.drawn c.self.inside.draws
    c.self.inside.ended c.self.inside.opened (g.L.Keep.free c.self.inside.log) (g.L.Keep.home c.self.inside.log) in
    let same : at ≡ c.args.self.now = c.self.view_is in
    let state : ℕ = c.stir-self-inside.result in
    drawn_first at.agent.pending c.way-at.result (state / 8589934592 / 2)
    (some_waits at.stage at.agent (ap (λ (s : RankState). must_draw s.stage s.agent) same ∙ c.requires.draws))
    (c.way-at.ensures.end ∙ ap (λ n. way at.agent.pending (state / 8589934592 / 2 % n)) c.count-count.ensures)
    (subst (λ n. c.way-at.result ≤ state / 8589934592 / 2 % n) c.count-count.ensures c.way-at.ensures.not_after)

pub returns-then-number-eq1 : goal.returns-then-number-eq1
returns-then-number-eq1 g c =
    let at : RankState = state_of c.self.inside.script.now c.self.inside.layout.now c.self.inside.delay
    c.self.inside.rank (g.L.Keep.kept c.self.inside.log) c.self.inside.windows c.self.inside.epochs
    c.self.inside.queue c.self.inside.at c.self.inside.entered c.self.inside.drawn c.self.inside.draws
    c.self.inside.ended c.self.inside.opened (g.L.Keep.free c.self.inside.log) (g.L.Keep.home c.self.inside.log) in
    let same : at ≡ c.args.self.now = c.self.view_is in
    let state : ℕ = c.stir-self-inside.result in
    let is : c.way-at.result ≡ way at.agent.pending (state / 8589934592 / 2 % length at.agent.pending) =
    c.way-at.ensures.end ∙ ap (λ n. way at.agent.pending (state / 8589934592 / 2 % n)) c.count-count.ensures in
    let first : IsFirst at.agent.pending c.way-at.result =
    drawn_first at.agent.pending c.way-at.result (state / 8589934592 / 2)
    (some_waits at.stage at.agent (ap (λ (s : RankState). must_draw s.stage s.agent) same ∙ c.requires.draws)) is
    (subst (λ n. c.way-at.result ≤ state / 8589934592 / 2 % n) c.count-count.ensures c.way-at.ensures.not_after) in
    subst (λ (x : RankState). IsMove c.args.self.now x (draw c.args.self.now.agent)) (sym c.begin_delivery.ensures)
    (subst (λ (s : RankState). IsMove s (record at {
      agent = record at.agent { drawn = true; draws = state };
      opened = Some c.way-at.result;
    }) (draw s.agent)) same
    (draws_one at state (state / 8589934592) c.way-at.result c.stir-self-inside.ensures refl
    c.if-number-eq1.true is first.0))
