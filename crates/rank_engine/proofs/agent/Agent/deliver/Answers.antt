-- The delivery is the queue's, and the rank stays sound.
use Rattle.std.proofs.Common.{◌≡◌, ◌≤◌, ◌+◌, List, length, sym, ◌∙◌, ap, subst, Option, Some, None, IfSome, true}
use Rattle.rma_types.specs.declared.calls.Call.{Call}
use Rattle.call_rules.specs.declared.cells.Cell.{Cell}
use Rattle.delivery_queue.specs.Queues.{Delivers, DeliversWhole, IsDeliverable}
use Rattle.lawful_runs.specs.Stages.{calls_at}
use Rattle.rank_engine.proofs.Deliveries.{deliverable, delivered_sound, undelivered_sound}
use Rattle.rank_engine.proofs.agent.Agent.deliver.Goals as goal
use Rattle.rank_engine.specs.DataAnswers.{HasRoom}
use Rattle.rank_engine.specs.Moves.{IsFirst}
use Rattle.rank_engine.specs.RankStates.{RankState, state_of, queue_of}
use Rattle.rank_engine.specs.Sound.{IsSound}

pub deliver-requires-clause-deliverable : goal.deliver-requires-clause-deliverable
deliver-requires-clause-deliverable g c =
    let at : RankState = state_of c.self.inside.script.now c.self.inside.layout.now c.self.inside.delay
    c.self.inside.rank (g.L.Keep.kept c.self.inside.log) c.self.inside.windows c.self.inside.epochs
    c.self.inside.queue c.self.inside.at c.self.inside.entered c.self.inside.drawn c.self.inside.draws
    c.self.inside.ended c.self.inside.opened (g.L.Keep.free c.self.inside.log) (g.L.Keep.home c.self.inside.log) in
    let same : at ≡ c.args.self.now = c.self.view_is in
    let calls : calls_at at.stage at.agent.rank ≡ c.calls-calls.result.now =
    ap (λ (s : RankState). calls_at s.stage s.agent.rank) same ∙ sym c.calls-calls.ensures.calls in
    subst (λ (l : List Call). IsDeliverable c.self.inside.queue c.args.at c.self.inside.layout.now l
    (g.M.Memory.face c.args.mem.now) (g.L.Keep.free c.self.inside.log)) calls
    (deliverable at c.args.at (g.M.Memory.face c.args.mem.now) c.self.invariant.0
    (subst (λ (s : RankState). HasRoom s (g.M.Memory.face c.args.mem.now)) (sym same) c.requires.room)
    (subst (λ (s : RankState). 256 ≤ s.free) (sym same) c.requires.free)
    (subst (λ (s : RankState). IsFirst s.agent.pending c.args.at) (sym same) c.requires.first))

pub invariant_of-self : goal.invariant_of-self
invariant_of-self g c = (
  undelivered_sound _ _ _ _ _ c.self.invariant.0 c.in_err-delivery.ensures.unchanged c.in_err-delivery.ensures.kept,
  c.self.invariant.1 ∙ sym (ap length c.in_err-delivery.ensures.kept),
)

pub invariant_of-self-2 : goal.invariant_of-self-2
invariant_of-self-2 g c =
    let at : RankState = state_of c.self.inside.script.now c.self.inside.layout.now c.self.inside.delay
    c.self.inside.rank (g.L.Keep.kept c.self.inside.log) c.self.inside.windows c.self.inside.epochs
    c.self.inside.queue c.self.inside.at c.self.inside.entered c.self.inside.drawn c.self.inside.draws
    c.self.inside.ended c.self.inside.opened (g.L.Keep.free c.self.inside.log) (g.L.Keep.home c.self.inside.log) in
    let same : at ≡ c.args.self.now = c.self.view_is in
    let calls : c.calls-calls.result.now ≡ calls_at at.stage at.agent.rank =
    c.calls-calls.ensures.calls ∙ sym (ap (λ (s : RankState). calls_at s.stage s.agent.rank) same) in (
      subst (λ o. IsSound (state_of c.self.inside.script.now c.self.inside.layout.now c.self.inside.delay
          c.self.inside.rank (g.L.Keep.kept c.deliver.new.log) c.self.inside.windows c.self.inside.epochs
          c.deliver.new.self c.self.inside.at c.self.inside.entered c.self.inside.drawn c.self.inside.draws
          c.self.inside.ended o (g.L.Keep.free c.deliver.new.log) (g.L.Keep.home c.deliver.new.log)))
          (sym c.opened_after-self-inside.ensures)
          (delivered_sound at c.deliver.new.self c.args.at c.in_ok-delivery.delivery.done (g.L.Keep.kept c.deliver.new.log)
          (g.M.Memory.face c.args.mem.now) (g.M.Memory.face c.deliver.new.mem) (g.M.Memory.knows c.deliver.new.mem) _ _
          c.self.invariant.0
          (subst (λ (l : List Call). Delivers c.self.inside.queue c.deliver.new.self c.args.at
          c.in_ok-delivery.delivery.done
          c.self.inside.layout.now l (g.M.Memory.face c.args.mem.now) (g.M.Memory.face c.deliver.new.mem)
          (g.M.Memory.knows c.deliver.new.mem) (g.L.Keep.kept c.self.inside.log) (g.L.Keep.kept c.deliver.new.log))
          calls
          c.in_ok-delivery.ensures.delivered)
          (subst (λ (s : RankState). IsFirst s.agent.pending c.args.at) (sym same) c.requires.first)
          (subst (λ (s : RankState). IfSome s.opened (λ place. place ≡ c.args.at)) (sym same) c.requires.alone)),
      ap (λ n. n + c.in_ok-delivery.delivery.touches) c.self.invariant.1 ∙ sym c.in_ok-delivery.ensures.count,
    )

second_of : {X : Type 0} (P Q : X → Type 0) (told : Option X) → IfSome told (λ x. P x × Q x) → IfSome told Q
second_of P Q None both = tt
second_of P Q (Some x) both = both.1

pub returns-clause-whole : goal.returns-clause-whole
returns-clause-whole g c =
    let at : RankState = state_of c.self.inside.script.now c.self.inside.layout.now c.self.inside.delay
    c.self.inside.rank (g.L.Keep.kept c.self.inside.log) c.self.inside.windows c.self.inside.epochs
    c.self.inside.queue c.self.inside.at c.self.inside.entered c.self.inside.drawn c.self.inside.draws
    c.self.inside.ended c.self.inside.opened (g.L.Keep.free c.self.inside.log) (g.L.Keep.home c.self.inside.log) in
    let same : at ≡ c.args.self.now = c.self.view_is in
    let calls : c.calls-calls.result.now ≡ calls_at at.stage at.agent.rank =
    c.calls-calls.ensures.calls ∙ sym (ap (λ (s : RankState). calls_at s.stage s.agent.rank) same) in
    let told = (g.M.Memory.face c.deliver.new.mem).told in
    let whole = second_of (λ (cells : List Cell). c.in_ok-delivery.delivery.done ≡ true)
    (λ (cells : List Cell). DeliversWhole c.self.inside.queue c.args.at c.self.inside.layout.now
    c.calls-calls.result.now cells told (g.L.Keep.kept c.self.inside.log) (g.L.Keep.kept c.deliver.new.log))
    (g.M.Memory.face c.args.mem.now).told c.in_ok-delivery.ensures.told in
    subst (λ (s : RankState). IfSome (g.M.Memory.face c.args.mem.now).told (λ (cells : List Cell).
    DeliversWhole (queue_of s) c.args.at s.stage.layout (calls_at s.stage s.agent.rank) cells told s.agent.log
    (g.L.Keep.kept c.deliver.new.log))) same
    (subst (λ (l : List Call). IfSome (g.M.Memory.face c.args.mem.now).told (λ (cells : List Cell).
    DeliversWhole c.self.inside.queue c.args.at c.self.inside.layout.now l cells told
    (g.L.Keep.kept c.self.inside.log) (g.L.Keep.kept c.deliver.new.log))) calls whole)
