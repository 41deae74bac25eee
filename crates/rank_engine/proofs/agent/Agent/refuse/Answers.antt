-- What the rank knows is that of a call that ended.
use Rattle.std.proofs.Common.{[], ◌∷◌, ◌++◌, refl, ◌∙◌, ap}
use Rattle.rma_record.specs.declared.items.Item.{Item}
use Rattle.rma_record.specs.declared.items.Item.TheVariants.{Refused}
use Rattle.rank_engine.proofs.Ended.{one_longer, plain_sound}
use Rattle.rank_engine.proofs.agent.Agent.refuse.Goals as goal
use Rattle.rank_engine.specs.RankStates.{RankState}

pub invariant_of-self-2 : goal.invariant_of-self-2
invariant_of-self-2 g c =
    let sound = c.self.invariant.0 in
    let new = ap (λ (s : RankState). s.agent.entered) c.self.view_is ∙ c.requires.new in
    let item : Item = Refused c.self.inside.at c.args.class c.args.seen in
    let log = c.keep.ensures.kept ∙ ap (λ l. l ++ item ∷ []) c.reserve.ensures.kept in (
      plain_sound _ item _ _ _ _ _ _ _ _ _ _ _ sound new refl log refl refl,
      one_longer _ _ item _ c.self.invariant.1
          log,
    )
