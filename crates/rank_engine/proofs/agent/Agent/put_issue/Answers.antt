-- The access of a call that is issued lies in memory, and is pending from then on.
use Rattle.std.proofs.Common.{◌≡◌, ℕ, ◌<◌, ◌≤◌, false, [], ◌∷◌, ◌++◌, Option, None, refl, sym, ◌∙◌, ap, subst}
use Rattle.std.specs.Prelude.{IfSome}
use Rattle.rank_rules.specs.Knowledge.{Knowledge, own_class}
use Rattle.rank_rules.specs.Requests.{is_live_request}
use Rattle.rank_engine.proofs.Issued.{issue_sound}
use Rattle.rank_engine.proofs.Passed.{accepted, request_free, request_small}
use Rattle.rank_engine.proofs.agent.Agent.put_issue.Goals as goal
use Rattle.rank_engine.specs.Moves.{place_now}
use Rattle.rank_engine.specs.RankStates.{RankState, state_of}
use Rattle.rank_engine.specs.Sound.{IsLookedUp}
use Rattle.rank_engine.proofs.Ended.{one_longer}
use Rattle.rma_types.specs.declared.calls.Call.{Call}
use Rattle.rma_record.specs.declared.items.Item.{Item}
use Rattle.rma_record.specs.declared.items.Item.TheVariants.{Issue}
use Rattle.rma_types.specs.Actions.{transfer_of}
use Rattle.delivery_queue.specs.Queues.{Queue, issued}
use Rattle.rank_rules.specs.Courses.{access_of}
use Rattle.rank_rules.specs.declared.pending.PendingAccess.{PendingAccess}
use Rattle.step_runs.specs.Agents.{next_call}

pub issue-requires-clause-name : goal.issue-requires-clause-name
issue-requires-clause-name g c =
    subst (λ (o : Option ℕ). IfSome o (λ name. name < 64)) (sym c.request_of.ensures)
    (request_small c.args.call.now c.requires.written)

pub issue-requires-clause-free : goal.issue-requires-clause-free
issue-requires-clause-free g c =
    let known : Knowledge = record {
      windows = c.self.inside.windows;
      epochs = c.self.inside.epochs;
      requests = c.self.inside.queue.requests;
    } in
    let passed : own_class known c.args.call.now ≡ None =
    ap (λ (s : RankState). own_class s.agent.known c.args.call.now) c.self.view_is ∙ c.requires.passed in
    subst (λ (o : Option ℕ). IfSome o (λ name. is_live_request c.self.inside.queue.requests name ≡ false))
    (sym c.request_of.ensures) (request_free known c.args.call.now passed)

pub after-requires-clause-accepted : goal.after-requires-clause-accepted
after-requires-clause-accepted g c =
    let known : Knowledge = record {
      windows = c.self.inside.windows;
      epochs = c.self.inside.epochs;
      requests = c.self.inside.queue.requests;
    } in
    let passed : own_class known c.args.call.now ≡ None =
    ap (λ (s : RankState). own_class s.agent.known c.args.call.now) c.self.view_is ∙ c.requires.passed in
    accepted known c.args.call.now
    (subst (λ n. n ≤ 16) (sym c.self.invariant.0.windows.ranks) c.self.invariant.0.formed.few_ranks) passed

pub invariant_of-self-2 : goal.invariant_of-self-2
invariant_of-self-2 g c =
    let at : RankState = state_of c.self.inside.script.now c.self.inside.layout.now c.self.inside.delay
    c.self.inside.rank (g.L.Keep.kept c.self.inside.log) c.self.inside.windows c.self.inside.epochs
    c.self.inside.queue c.self.inside.at c.self.inside.entered c.self.inside.drawn c.self.inside.draws
    c.self.inside.ended c.self.inside.opened (g.L.Keep.free c.self.inside.log) (g.L.Keep.home c.self.inside.log) in
    let same : at ≡ c.args.self.now = c.self.view_is in
    let call : Call = c.args.call.now in
    let item : Item = Issue c.self.inside.at c.args.access in
    let log = c.keep.ensures.kept ∙ ap (λ l. l ++ item ∷ []) c.reserve.ensures.kept in
    let added = c.in_ok-issue.ensures.added in
    let one : PendingAccess = issued c.self.inside.at c.self.inside.kept c.args.access c.does_fetch.result in (
      issue_sound at call c.args.access one _ _ _ _ _ _ _ _ _ _ _ _ c.self.invariant.0 c.requires.written
          (ap (λ (s : RankState). next_call s.stage s.agent) same ∙ c.requires.call)
          (ap (λ (s : RankState). access_of s.agent.known.windows call) same ∙ c.requires.access)
          (subst (λ (s : RankState). IfSome (transfer_of call) (IsLookedUp s.stage.layout s.agent.known.windows))
          (sym same)
          c.requires.lies)
          (ap (λ (s : RankState). s.opened) same ∙ c.requires.closed) refl refl log (ap (λ (q : Queue). q.pending) added)
          (ap (λ (q : Queue). q.touched) added)
          (c.place_now-opened.ensures ∙ ap (λ (s : RankState). place_now s c.args.access) (sym same)),
      one_longer _ _ item _ c.self.invariant.1 log,
    )
