-- The last item is no entry.
use Rattle.std.proofs.Common.{[], ◌∷◌, ◌++◌, refl, ◌∙◌, ap}
use Rattle.rma_record.specs.declared.items.Item.TheVariants.{Ended}
use Rattle.rank_engine.proofs.Deliveries.{log_sound}
use Rattle.rank_engine.proofs.Ended.{no_row, one_longer}
use Rattle.rank_engine.proofs.agent.Agent.end.Goals as goal
use Rattle.rank_engine.specs.RankStates.{RankState, state_of}

pub invariant_of-self-2 : goal.invariant_of-self-2
invariant_of-self-2 g c =
    let at : RankState = state_of c.self.inside.script.now c.self.inside.layout.now c.self.inside.delay
    c.self.inside.rank (g.L.Keep.kept c.self.inside.log) c.self.inside.windows c.self.inside.epochs
    c.self.inside.queue c.self.inside.at c.self.inside.entered c.self.inside.drawn c.self.inside.draws
    c.self.inside.ended c.self.inside.opened (g.L.Keep.free c.self.inside.log) (g.L.Keep.home c.self.inside.log) in
    let log = c.keep.ensures.kept ∙ ap (λ l. l ++ Ended ∷ []) c.reserve.ensures.kept in (
      log_sound at _ _ _ _ c.self.invariant.0 (no_row at.stage at.agent.rank at.agent.log _ Ended refl log),
      one_longer _ _ Ended _ c.self.invariant.1 log,
    )
