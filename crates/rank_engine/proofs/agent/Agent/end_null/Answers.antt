-- A call whose target is MPI_PROC_NULL makes a request at most.
use Rattle.std.proofs.Common.{◌≡◌, ℕ, ◌≤◌, false, [], ◌∷◌, ◌++◌, Option, None, refl, sym, ◌∙◌, ap, subst}
use Rattle.std.specs.Prelude.{IfSome}
use Rattle.std.proofs.lemmas.List.{append-nil}
use Rattle.rma_record.specs.declared.items.Item.{Item}
use Rattle.rma_record.specs.declared.items.Item.TheVariants.{Null}
use Rattle.delivery_queue.specs.Queues.{Queue}
use Rattle.rank_rules.specs.Knowledge.{Knowledge, own_class}
use Rattle.rank_rules.specs.Requests.{is_live_request}
use Rattle.rank_engine.proofs.Ended.{one_longer, plain_sound}
use Rattle.rank_engine.proofs.Passed.{accepted, request_free}
use Rattle.rank_engine.proofs.agent.Agent.end_null.Goals as goal
use Rattle.rank_engine.specs.RankStates.{RankState}

pub issue-requires-clause-free : goal.issue-requires-clause-free
issue-requires-clause-free g c =
    let known : Knowledge = record {
      windows = c.self.inside.windows;
      epochs = c.self.inside.epochs;
      requests = c.self.inside.queue.requests;
    } in
    let passed : own_class known c.args.call.now ≡ None =
    ap (λ (s : RankState). own_class s.agent.known c.args.call.now) c.self.view_is ∙ c.requires.passed in
    subst (λ (o : Option ℕ). IfSome o (λ name. is_live_request c.self.inside.queue.requests name ≡ false))
    (sym c.request_of.ensures) (request_free known c.args.call.now passed)

pub after-requires-clause-accepted : goal.after-requires-clause-accepted
after-requires-clause-accepted g c =
    let known : Knowledge = record {
      windows = c.self.inside.windows;
      epochs = c.self.inside.epochs;
      requests = c.self.inside.queue.requests;
    } in
    let passed : own_class known c.args.call.now ≡ None =
    ap (λ (s : RankState). own_class s.agent.known c.args.call.now) c.self.view_is ∙ c.requires.passed in
    accepted known c.args.call.now
    (subst (λ n. n ≤ 16) (sym c.self.invariant.0.windows.ranks) c.self.invariant.0.formed.few_ranks) passed

pub invariant_of-self-2 : goal.invariant_of-self-2
invariant_of-self-2 g c =
    let sound = c.self.invariant.0 in
    let new = ap (λ (s : RankState). s.agent.entered) c.self.view_is ∙ c.requires.new in
    let item : Item = Null c.self.inside.at in
    let log = c.keep.ensures.kept ∙ ap (λ l. l ++ item ∷ []) c.reserve.ensures.kept in
    let added = c.in_ok-issue.ensures.added in (
      plain_sound _ item _ _ _ _ _ _ _ _ _ _ _ sound new refl log
          (ap (λ (q : Queue). q.pending) added ∙ append-nil c.self.inside.queue.pending)
          (ap (λ (q : Queue). q.touched) added ∙ append-nil c.self.inside.queue.touched),
      one_longer _ _ item _ c.self.invariant.1 log,
    )
