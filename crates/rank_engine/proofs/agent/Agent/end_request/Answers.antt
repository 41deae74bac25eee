-- The call ends a live request.
use Rattle.std.proofs.Common.{◌≡◌, [], ◌∷◌, ◌++◌, None, refl, sym, ◌∙◌, ap}
use Rattle.rma_record.specs.declared.items.Item.{Item}
use Rattle.rma_record.specs.declared.items.Item.TheVariants.{Request}
use Rattle.delivery_queue.specs.Queues.{Queue}
use Rattle.rank_rules.specs.Knowledge.{Knowledge, own_class}
use Rattle.rank_engine.proofs.Ended.{one_longer, plain_sound}
use Rattle.rank_engine.proofs.EndedRequests.{ended_live, ended_small, ends_some}
use Rattle.rank_engine.proofs.agent.Agent.end_request.Goals as goal
use Rattle.rank_engine.specs.RankStates.{RankState}

pub unreachable-requires : goal.unreachable-requires
unreachable-requires g c =
    ends_some c.args.self.now.agent.known.windows c.args.call.now c.requires.course (sym c.in-None.ensures)

pub end_request-requires-clause-name : goal.end_request-requires-clause-name
end_request-requires-clause-name g c =
    ended_small c.args.call.now c.in-Some.req c.requires.written (sym c.in-Some.ensures)

pub end_request-requires-clause-live : goal.end_request-requires-clause-live
end_request-requires-clause-live g c =
    let known : Knowledge = record {
      windows = c.self.inside.windows;
      epochs = c.self.inside.epochs;
      requests = c.self.inside.queue.requests;
    } in
    let passed : own_class known c.args.call.now ≡ None =
    ap (λ (s : RankState). own_class s.agent.known c.args.call.now) c.self.view_is ∙ c.requires.passed in
    ended_live known c.args.call.now c.in-Some.req passed (sym c.in-Some.ensures)

pub invariant_of-self-in-Some : goal.invariant_of-self-in-Some
invariant_of-self-in-Some g c =
    let sound = c.self.invariant.0 in
    let new = ap (λ (s : RankState). s.agent.entered) c.self.view_is ∙ c.requires.new in
    let item : Item = Request c.self.inside.at in
    let log = c.keep.ensures.kept ∙ ap (λ l. l ++ item ∷ []) c.reserve.ensures.kept in (
      plain_sound _ item _ _ _ _ _ _ _ _ _ _ _ sound new refl log
          (ap (λ (q : Queue). q.pending) c.end_request.ensures) (ap (λ (q : Queue). q.touched) c.end_request.ensures),
      one_longer _ _ item _ c.self.invariant.1 log,
    )
