-- A drain delivers the first pending access.
use Rattle.std.proofs.Common.{◌≡◌, ◌<◌, true, false, not, List, Some, length, sym, ◌∙◌, ap, subst}
use Rattle.std.specs.Prelude.{◌==◌, IfSome, MatchBool}
use Rattle.cell_face.specs.Faces.{Rose}
use Rattle.std.specs.Option.{unwrap_or}
use Rattle.call_rules.specs.declared.cells.Cell.{Cell}
use Rattle.delivery_queue.specs.Queues.{DeliversWhole}
use Rattle.lawful_runs.specs.Stages.{calls_at}
use Rattle.rank_engine.proofs.Begun.{drained_first}
use Rattle.rank_engine.proofs.StepsMade.{drains_one, positive, some_pending}
use Rattle.rank_engine.proofs.WholeSteps.{whole_drain}
use Rattle.rank_engine.proofs.agent.Agent.drain.Goals as goal
use Rattle.rank_engine.specs.DataAnswers.{IsDelivered}
use Rattle.rank_engine.specs.Moves.{IsFirst}
use Rattle.rank_engine.specs.RankStates.{RankState, queue_of}
use Rattle.rank_engine.specs.Sound.{IsSound}

pub deliver-requires-clause-first : goal.deliver-requires-clause-first
deliver-requires-clause-first g c =
    let now : RankState = c.args.self.now in
    let at : c.unwrap_or-at.result ≡ unwrap_or now.opened 0 =
    c.unwrap_or-at.ensures ∙ ap (λ (s : RankState). unwrap_or s.opened 0) c.self.view_is in
    let count : c.count.result ≡ length now.agent.pending =
    c.count.ensures ∙ ap (λ (s : RankState). length s.agent.pending) c.self.view_is in
    subst (IsFirst now.agent.pending) (sym at) (drained_first now (subst IsSound c.self.view_is c.self.invariant.0)
    (subst (λ n. 0 < n) count (positive c.count.result c.if-count-eq0.false))).0

pub deliver-requires-clause-alone : goal.deliver-requires-clause-alone
deliver-requires-clause-alone g c =
    let now : RankState = c.args.self.now in
    let at : c.unwrap_or-at.result ≡ unwrap_or now.opened 0 =
    c.unwrap_or-at.ensures ∙ ap (λ (s : RankState). unwrap_or s.opened 0) c.self.view_is in
    let count : c.count.result ≡ length now.agent.pending =
    c.count.ensures ∙ ap (λ (s : RankState). length s.agent.pending) c.self.view_is in
    subst (λ n. IfSome now.opened (λ place. place ≡ n)) (sym at)
    (drained_first now (subst IsSound c.self.view_is c.self.invariant.0)
    (subst (λ n. 0 < n) count (positive c.count.result c.if-count-eq0.false))).1

pub returns-then-branch-clause-answer : goal.returns-then-branch-clause-answer
returns-then-branch-clause-answer g c =
    let now : RankState = c.args.self.now in
    let count : c.count.result ≡ length now.agent.pending =
    c.count.ensures ∙ ap (λ (s : RankState). length s.agent.pending) c.self.view_is in
    let at : c.unwrap_or-at.result ≡ unwrap_or now.opened 0 =
    c.unwrap_or-at.ensures ∙ ap (λ (s : RankState). unwrap_or s.opened 0) c.self.view_is in
    let here = subst (λ b. IsDelivered (Some c.unwrap_or-at.result) now c.deliver.new.self b
    (g.M.Memory.face c.args.mem.now) (g.M.Memory.face c.deliver.new.mem) (g.M.Memory.knows c.deliver.new.mem))
    c.if-branch.true c.in_ok-deliver.ensures.delivered in
    let delivered = subst (λ n. IsDelivered (Some n) now c.deliver.new.self true
    (g.M.Memory.face c.args.mem.now) (g.M.Memory.face c.deliver.new.mem) (g.M.Memory.knows c.deliver.new.mem))
    at here in (
      subst (λ n. not (n == 0) ≡ true) count (some_pending c.count.result c.if-count-eq0.false),
      drains_one now c.deliver.new.self true (g.M.Memory.face c.args.mem.now) (g.M.Memory.face c.deliver.new.mem)
          (g.M.Memory.knows c.deliver.new.mem) c.deliver.ensures.sound delivered c.deliver.ensures.few
          c.deliver.ensures.free,
      subst (λ b. MatchBool b ((g.M.Memory.face c.deliver.new.mem).moves ≡ (g.M.Memory.face c.args.mem.now).moves)
          (Rose (g.M.Memory.face c.args.mem.now).moves (g.M.Memory.face c.deliver.new.mem).moves)) c.if-branch.true
          c.in_ok-deliver.ensures.moved,
    )

pub returns-then-branch-clause-told : goal.returns-then-branch-clause-told
returns-then-branch-clause-told g c =
    let now : RankState = c.args.self.now in
    let count : c.count.result ≡ length now.agent.pending =
    c.count.ensures ∙ ap (λ (s : RankState). length s.agent.pending) c.self.view_is in
    let at : c.unwrap_or-at.result ≡ unwrap_or now.opened 0 =
    c.unwrap_or-at.ensures ∙ ap (λ (s : RankState). unwrap_or s.opened 0) c.self.view_is in
    let here = subst (λ b. IsDelivered (Some c.unwrap_or-at.result) now c.deliver.new.self b
    (g.M.Memory.face c.args.mem.now) (g.M.Memory.face c.deliver.new.mem) (g.M.Memory.knows c.deliver.new.mem))
    c.if-branch.true c.in_ok-deliver.ensures.delivered in
    let delivered = subst (λ n. IsDelivered (Some n) now c.deliver.new.self true
    (g.M.Memory.face c.args.mem.now) (g.M.Memory.face c.deliver.new.mem) (g.M.Memory.knows c.deliver.new.mem))
    at here in
    whole_drain now c.deliver.new.self (g.M.Memory.face c.args.mem.now) (g.M.Memory.face c.deliver.new.mem)
    (g.M.Memory.knows c.deliver.new.mem) c.deliver.ensures.sound
    (subst (λ n. 0 < n) count (positive c.count.result c.if-count-eq0.false)) delivered
    (subst (λ n. IfSome (g.M.Memory.face c.args.mem.now).told (λ (cells : List Cell). DeliversWhole (queue_of now) n
    now.stage.layout (calls_at now.stage now.agent.rank) cells (g.M.Memory.face c.deliver.new.mem).told now.agent.log
    c.deliver.new.self.agent.log)) at c.in_ok-deliver.ensures.whole)

pub returns-clause-answer : goal.returns-clause-answer
returns-clause-answer g c =
    let now : RankState = c.args.self.now in
    let count : c.count.result ≡ length now.agent.pending =
    c.count.ensures ∙ ap (λ (s : RankState). length s.agent.pending) c.self.view_is in
    let at : c.unwrap_or-at.result ≡ unwrap_or now.opened 0 =
    c.unwrap_or-at.ensures ∙ ap (λ (s : RankState). unwrap_or s.opened 0) c.self.view_is in
    let here = subst (λ b. IsDelivered (Some c.unwrap_or-at.result) now c.deliver.new.self b
    (g.M.Memory.face c.args.mem.now) (g.M.Memory.face c.deliver.new.mem) (g.M.Memory.knows c.deliver.new.mem))
    c.if-branch.false c.in_ok-deliver.ensures.delivered in
    let delivered = subst (λ n. IsDelivered (Some n) now c.deliver.new.self false
    (g.M.Memory.face c.args.mem.now) (g.M.Memory.face c.deliver.new.mem) (g.M.Memory.knows c.deliver.new.mem))
    at here in (
      subst (λ n. not (n == 0) ≡ true) count (some_pending c.count.result c.if-count-eq0.false),
      drains_one now c.deliver.new.self false (g.M.Memory.face c.args.mem.now) (g.M.Memory.face c.deliver.new.mem)
          (g.M.Memory.knows c.deliver.new.mem) c.deliver.ensures.sound delivered c.deliver.ensures.few
          c.deliver.ensures.free,
      subst (λ b. MatchBool b ((g.M.Memory.face c.deliver.new.mem).moves ≡ (g.M.Memory.face c.args.mem.now).moves)
          (Rose (g.M.Memory.face c.args.mem.now).moves (g.M.Memory.face c.deliver.new.mem).moves)) c.if-branch.false
          c.in_ok-deliver.ensures.moved,
    )
